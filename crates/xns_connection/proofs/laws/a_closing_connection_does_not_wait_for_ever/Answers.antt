use Rattle.xns_connection.proofs.Wanted.{waits_not_for_ever}
use Rattle.xns_connection.proofs.laws.a_closing_connection_does_not_wait_for_ever.Goals as goal

pub returns : goal.returns
returns c = waits_not_for_ever c.a_call_does_not_wait_for_ever.ensures
