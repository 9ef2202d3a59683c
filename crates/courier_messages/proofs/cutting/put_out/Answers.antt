use Rattle.std.proofs.Common.{◌≡◌, ◌∙◌, ◌++◌, ◌∷◌, [], ap, sym, List, length, rules, arith}
use Rattle.std.proofs.lemmas.Grind.{common_steps}
use Rattle.xns_spp.specs.declared.item.Item.{Item}
use Rattle.courier_types.specs.Source.{bytes_of}
use Rattle.courier_messages.specs.Bounds.{bytes_in}
use Rattle.courier_messages.specs.Cutting.{cut_bytes}
use Rattle.courier_messages.proofs.Cuts.{last_item, put_length}
use Rattle.courier_messages.proofs.cutting.put_out.Goals as goal

pub returns-clause-size : goal.returns-clause-size
returns-clause-size c =
    let before : List Item = c.args.out.now.items in
    let words = c.args.words.now in
    let all : c.push_back.new.self.items ≡ before ++ cut_bytes (bytes_of words) =
    c.in_ok-push_back.ensures.items
    ∙ (ap (λ (x : Item). before ++ x ∷ []) c.in_ok-item.ensures ∙ ap (λ (xs : List Item). before ++ xs) (sym (last_item words c.if-words-gt-WORDS_AN_ITEM.false))) in
    ap (λ (xs : List Item). length (bytes_in xs)) all ∙ put_length before words

pub returns-then-words-gt-WORDS_AN_ITEM-clause-ok : goal.returns-then-words-gt-WORDS_AN_ITEM-clause-ok
returns-then-words-gt-WORDS_AN_ITEM-clause-ok c = search rules

pub returns-then-words-gt-WORDS_AN_ITEM-clause-size : goal.returns-then-words-gt-WORDS_AN_ITEM-clause-size
returns-then-words-gt-WORDS_AN_ITEM-clause-size c = grind (arith, common_steps)

pub returns-clause-ok : goal.returns-clause-ok
returns-clause-ok c = grind (arith, last_item)
