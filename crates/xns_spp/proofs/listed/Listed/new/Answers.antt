use Rattle.std.proofs.Common.{rules}
use Rattle.xns_spp.proofs.listed.Listed.new.Goals as goal

pub returns : goal.returns
returns g c = search rules
