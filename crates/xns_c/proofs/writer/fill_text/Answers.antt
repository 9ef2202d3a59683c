use Rattle.std.proofs.lemmas.Grind.{common_steps}
use Rattle.std.proofs.Common.{arith, ◌++◌, ◌∙◌, List, ℕ, length, ap}
use Rattle.courier_types.specs.Spelling.{bytes_spelling}
use Rattle.xns_c.proofs.Spelled.{text_begun, text_room, text_ended}
use Rattle.xns_c.proofs.writer.fill_text.Goals as goal

pub loop-rest-init : goal.loop-rest-init
loop-rest-init c = record {
  put = ap (λ (l : List ℕ). l ++ bytes_spelling c.args.bytes.now) (text_begun c.args.words.now (length c.args.bytes.now) (length (bytes_spelling c.args.bytes.now)) c.requires.room);
  count = text_room c.args.words.now (length c.args.bytes.now) (length (bytes_spelling c.args.bytes.now)) c.requires.room;
}

pub returns-in-len1 : goal.returns-in-len1
returns-in-len1 c =
    text_ended c.loop-rest.words c.loop-rest.rest.now c.loop-rest.place c.from-in-len1.result c.in-len1.len_at_least c.in-len1.len_below c.from-in-len1.ensures c.loop-rest.invariant.count
    ∙ c.loop-rest.invariant.put

pub loop-rest-preserved : goal.loop-rest-preserved
loop-rest-preserved c = grind (arith, common_steps)

pub returns-then-rest-lt1 : goal.returns-then-rest-lt1
returns-then-rest-lt1 c = grind (arith, common_steps)
