use Rattle.std.proofs.Common.{◌∙◌, ◌++◌, ◌∷◌, [], ap, sym, List}
use Rattle.xns_spp.specs.declared.item.Item.{Item}
use Rattle.courier_messages.proofs.Puts.{whole_cut}
use Rattle.courier_messages.proofs.cutting.put_whole.Goals as goal

pub returns-clause-ok : goal.returns-clause-ok
returns-clause-ok c =
    let before : List Item = c.args.out.now.items in
    c.in_ok-push_back.ensures.items
    ∙ (ap (λ (x : Item). before ++ x ∷ []) c.in_ok-item.ensures ∙ ap (λ (xs : List Item). before ++ xs) (sym (whole_cut c.args.head c.args.words.now c.requires)))
