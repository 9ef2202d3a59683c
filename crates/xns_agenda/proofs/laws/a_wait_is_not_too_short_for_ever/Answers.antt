use Rattle.xns_agenda.proofs.Ambiguities.{waits_first}
use Rattle.xns_agenda.proofs.laws.a_wait_is_not_too_short_for_ever.Goals as goal

pub returns : goal.returns
returns c = λ m k pace few all. waits_first m k pace few all
