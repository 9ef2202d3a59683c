use Rattle.xns_connection.proofs.Dead.{lost_nothing}
use Rattle.xns_connection.proofs.laws.a_good_close_loses_nothing.Goals as goal

pub returns : goal.returns
returns c = lost_nothing
