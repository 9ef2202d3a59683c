use Rattle.std.proofs.Common.{subst, ℕ, List, Option}
use Rattle.xns_agenda.specs.Times.{IsEarliest}
use Rattle.xns_agenda.proofs.Beside.{first_of_others, nothing_beside}
use Rattle.xns_agenda.proofs.times.Times.first.Goals as goal

pub returns-in-None-clause-some : goal.returns-in-None-clause-some
returns-in-None-clause-some c = λ k t is. subst (λ (xs : List (Option ℕ)). IsEarliest xs k t) c.self.view_is
    (first_of_others c.self.inside.others c.self.inside.last k t c.self.inside.time c.self.invariant.none (c.first.ensures.some k t is) (nothing_beside t c.self.inside.time c.in-None.is))
