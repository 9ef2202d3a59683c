use Rattle.std.proofs.Common.{refl}
use Rattle.xns_agenda.proofs.Agendas.{earliest_within}
use Rattle.xns_agenda.proofs.agenda.first_by.Goals as goal

pub returns-clause-some : goal.returns-clause-some
returns-clause-some c =
    let found = c.in_ok-number.ensures.some c.in_ok-number.number c.in_ok-number.field-0-1 refl in
    record { time = c.in_ok-number.field-0-1; first = found.0; by = found.1 }

pub returns-clause-within : goal.returns-clause-within
returns-clause-within c = earliest_within c.args.dues.now c.in_ok-number.number c.in_ok-number.field-0-1 (c.in_ok-number.ensures.some c.in_ok-number.number c.in_ok-number.field-0-1 refl).0
