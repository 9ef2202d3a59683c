use Rattle.xns_agenda.proofs.Measures.{usual}
use Rattle.xns_agenda.proofs.laws.a_silent_peer_is_borne.Goals as goal

pub returns-clause-usual : goal.returns-clause-usual
returns-clause-usual c = usual
