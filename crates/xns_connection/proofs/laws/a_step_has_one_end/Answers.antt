use Rattle.xns_connection.proofs.Alike.{one_end}
use Rattle.xns_connection.proofs.laws.a_step_has_one_end.Goals as goal

pub returns : goal.returns
returns c = one_end
