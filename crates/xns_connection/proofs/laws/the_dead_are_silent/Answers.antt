use Rattle.xns_connection.proofs.Dead.{dead_are_silent}
use Rattle.xns_connection.proofs.laws.the_dead_are_silent.Goals as goal

pub returns : goal.returns
returns c = dead_are_silent
