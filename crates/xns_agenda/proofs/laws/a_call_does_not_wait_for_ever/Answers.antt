use Rattle.xns_agenda.proofs.Wanting.{wants_due}
use Rattle.xns_agenda.proofs.laws.a_call_does_not_wait_for_ever.Goals as goal

pub returns : goal.returns
returns c = wants_due
