use Rattle.std.proofs.Common.{refl, rules, subst, None}
use Rattle.xns_agenda.specs.Times.{HasEarliest}
use Rattle.xns_agenda.specs.Turns.{HasNoTurn, Line, IsFirst}
use Rattle.xns_agenda.proofs.Agendas.{no_turn}
use Rattle.xns_agenda.proofs.Turning.{first_turn}
use Rattle.xns_agenda.proofs.turns.Turns.first.Goals as goal

pub returns-clause-some : goal.returns-clause-some
returns-clause-some c =
    subst (λ (line : Line). IsFirst line c.in_ok-number.number) c.self.view_is
    (first_turn (record { tickets = c.self.inside.tickets; next = c.self.inside.next }) c.in_ok-number.number c.in_ok-number.field-0-1 (c.in_ok-number.ensures.some c.in_ok-number.number c.in_ok-number.field-0-1 refl))

pub returns-in_err-number-clause-none : goal.returns-in_err-number-clause-none
returns-in_err-number-clause-none c = λ is.
    let none : HasEarliest c.self.inside.tickets None = search rules in
    subst (λ (line : Line). HasNoTurn line) c.self.view_is (no_turn (record { tickets = c.self.inside.tickets; next = c.self.inside.next }) none)
