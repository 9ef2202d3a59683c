use Rattle.std.proofs.Common.{rules}
use Rattle.xns_spp.proofs.ends.Ends.is_open.Goals as goal

pub returns : goal.returns
returns c = search rules
