use Rattle.std.proofs.Common.{◌≡◌, refl, subst, ℕ, Some, slice_get}
use Rattle.xns_agenda.specs.Times.{IsEarliest}
use Rattle.xns_agenda.proofs.agenda.first_time.Goals as goal

pub returns-clause-earliest : goal.returns-clause-earliest
returns-clause-earliest c = (c.in_ok-time.ensures.some c.in_ok-time.field-0-0 c.in_ok-time.time refl).least

pub returns-clause-there : goal.returns-clause-there
returns-clause-there c = λ t is.
    let here : IsEarliest c.args.dues.now c.in_ok-time.field-0-0 c.in_ok-time.time = c.in_ok-time.ensures.some c.in_ok-time.field-0-0 c.in_ok-time.time refl in
    let same : c.in_ok-time.time ≡ t = cc in
    (c.in_ok-time.field-0-0, subst (λ (n : ℕ). slice_get c.args.dues.now c.in_ok-time.field-0-0 ≡ Some (Some n)) same here.there)
