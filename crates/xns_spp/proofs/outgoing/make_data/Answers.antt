use Rattle.std.proofs.Common.{rules}
use Rattle.xns_spp.proofs.outgoing.make_data.Goals as goal

pub returns : goal.returns
returns c = search rules
