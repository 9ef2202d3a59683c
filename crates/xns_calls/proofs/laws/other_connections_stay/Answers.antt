use Rattle.xns_calls.proofs.Others.{others_same}
use Rattle.xns_calls.proofs.laws.other_connections_stay.Goals as goal

pub returns : goal.returns
returns c = others_same
