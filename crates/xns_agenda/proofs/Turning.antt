-- Whose turn is first.
use Rattle.std.proofs.Common.{◌≡◌, ap, subst, sym, ℕ, Option, Some, None}
use Rattle.std.specs.Option.{is_some}
use Rattle.std.proofs.lemmas.Option.{get_or_from_slice_get}
use Rattle.xns_agenda.specs.Times.{HasEarliest, IsEarliest}
use Rattle.xns_agenda.specs.Turns.{Line, IsFirst, ticket_of}

pub first_turn : (line : Line) (k t : ℕ) → IsEarliest line.tickets k t → IsFirst line k
first_turn line k t e =
    let is : ticket_of line k ≡ Some t = get_or_from_slice_get line.tickets k (Some t) None e.there in
    record { has = ap is_some is; first = subst (λ (o : Option ℕ). HasEarliest line.tickets o) (sym is) e.least }
