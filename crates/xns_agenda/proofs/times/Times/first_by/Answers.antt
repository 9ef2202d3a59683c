use Rattle.std.proofs.Common.{◌≡◌, subst, ℕ, ◌<◌, List, Option, Some}
use Rattle.xns_agenda.specs.Times.{IsEarliest, HasNoneBy}
use Rattle.xns_agenda.proofs.Beside.{first_of_others, later_than, later_too, none_by, nothing_after}
use Rattle.xns_agenda.proofs.times.Times.first_by.Goals as goal
use Rattle.xns_agenda.proofs.times.Times.first_by.Goals.{in_default-via-in-Some+else-time-now, in_default-via-in_default}

beside_later : (c : goal.After-first_by) → (u : ℕ) → c.self.inside.time ≡ Some u → c.args.now < u
beside_later c = elim c.in_default.branch [
  | in_default-via-in-Some+else-time-now w ↦ later_than c.args.now w.in-Some.time c.self.inside.time w.in-Some.is w.if-time-now.false
  | in_default-via-in_default w ↦ nothing_after c.args.now c.self.inside.time w.in_default.is
]

pub returns-in_default-clause-some : goal.returns-in_default-clause-some
returns-in_default-clause-some c = λ k t is. (
  subst (λ (xs : List (Option ℕ)). IsEarliest xs k t) c.self.view_is
      (first_of_others c.self.inside.others c.self.inside.last k t c.self.inside.time c.self.invariant.none (c.first_by.ensures.some k t is) (later_too t c.args.now c.self.inside.time (c.first_by.ensures.by k t is) (beside_later c))),
  c.first_by.ensures.by k t is,
)

pub returns-in_default-clause-none : goal.returns-in_default-clause-none
returns-in_default-clause-none c = λ is. subst (λ (xs : List (Option ℕ)). HasNoneBy xs c.args.now) c.self.view_is
    (none_by c.self.inside.others c.self.inside.last c.args.now c.self.inside.time (c.first_by.ensures.none is) (beside_later c))
