use Rattle.xns_connection.proofs.Ends.{keeps_its_end}
use Rattle.xns_connection.proofs.laws.a_connection_keeps_its_end.Goals as goal

pub returns : goal.returns
returns c = keeps_its_end
