use Rattle.xns_calls.proofs.Living.{living_kept}
use Rattle.xns_calls.proofs.laws.living_connections_are_kept.Goals as goal

pub returns : goal.returns
returns c = living_kept
