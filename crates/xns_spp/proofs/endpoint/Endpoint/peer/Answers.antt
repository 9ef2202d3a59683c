use Rattle.std.proofs.Common.{rules}
use Rattle.xns_spp.proofs.endpoint.Endpoint.peer.Goals as goal

pub returns-then-is_open : goal.returns-then-is_open
returns-then-is_open c = search rules
