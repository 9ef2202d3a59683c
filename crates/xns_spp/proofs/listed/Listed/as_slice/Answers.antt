use Rattle.std.proofs.Common.{rules}
use Rattle.xns_spp.proofs.listed.Listed.as_slice.Goals as goal

pub returns : goal.returns
returns c = search rules
