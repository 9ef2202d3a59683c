use Rattle.xns_agenda.proofs.Repeats.{answered_once}
use Rattle.xns_agenda.proofs.laws.a_repeat_is_answered_once.Goals as goal

pub returns : goal.returns
returns c = answered_once
