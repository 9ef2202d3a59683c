use Rattle.std.proofs.lemmas.Grind.{common_steps}
use Rattle.std.proofs.Common.{arith, length}
use Rattle.xns_c.proofs.Texts.{even_put, odd_put}
use Rattle.xns_c.proofs.reader.fill_bytes.Goals as goal

pub returns-then-place-bytes : goal.returns-then-place-bytes
returns-then-place-bytes c =
    odd_put c.args.words.now c.loop-rest.bytes c.loop-rest.rest.now c.split_at.result.1.now (length c.args.bytes.now) c.loop-rest.place c.requires c.loop-rest.auto.bytes c.in_default.len_below
    c.loop-rest.invariant.put c.loop-rest.invariant.count c.if-place-bytes.true c.split_at.ensures.back

pub returns-else-place-bytes : goal.returns-else-place-bytes
returns-else-place-bytes c =
    even_put c.args.words.now c.loop-rest.bytes c.loop-rest.rest.now (length c.args.bytes.now) c.loop-rest.place c.requires c.loop-rest.auto.bytes c.in_default.len_below
    c.loop-rest.invariant.put c.loop-rest.invariant.count c.if-place-bytes.false

pub loop-rest-preserved : goal.loop-rest-preserved
loop-rest-preserved c = grind (arith, common_steps)
