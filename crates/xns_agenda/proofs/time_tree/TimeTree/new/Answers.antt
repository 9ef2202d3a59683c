use Rattle.std.proofs.Common.{◌≡◌, rules, sym, subst, ℕ, List, replicate, Option, None}
use Rattle.xns_agenda.specs.Times.{IsTree}
use Rattle.xns_agenda.proofs.Tree.{empty}
use Rattle.xns_agenda.proofs.time_tree.TimeTree.new.Goals as goal

pub invariant_of-result : goal.invariant_of-result
invariant_of-result c =
    let tree : c.in_ok-tree.tree.items ≡ replicate c.args.most None = search rules in
    let times : c.in_ok-times.times.items ≡ replicate c.args.most None = search rules in
    subst (λ (xs : List (Option ℕ)). IsTree xs c.in_ok-times.times.items) (sym tree) (subst (λ (xs : List (Option ℕ)). IsTree (replicate c.args.most None) xs) (sym times) (empty c.args.most))
