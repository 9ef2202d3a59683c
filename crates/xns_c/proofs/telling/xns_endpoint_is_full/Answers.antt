use Rattle.std.proofs.Common.{rules}
use Rattle.xns_c.proofs.telling.xns_endpoint_is_full.Goals as goal

pub returns : goal.returns
returns c = record { answer = search rules steps 1000000; none = search rules; same = search rules }
