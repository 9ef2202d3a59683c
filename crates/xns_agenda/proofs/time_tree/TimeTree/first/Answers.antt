use Rattle.std.proofs.Common.{◌∙◌, subst, ℕ, List, Option}
use Rattle.xns_agenda.specs.Times.{IsEarliest}
use Rattle.xns_agenda.proofs.time_tree.TimeTree.first.Goals as goal

pub returns-clause-some : goal.returns-clause-some
returns-clause-some c = λ k t is. subst (λ (xs : List (Option ℕ)). IsEarliest xs k t) (c.as_slice-2.ensures.value ∙ c.self.view_is) (c.first_of.ensures.some k t is)
