use Rattle.std.proofs.Common.{rules}
use Rattle.xns_c.proofs.version.xns_version.Goals as goal

pub returns : goal.returns
returns c = search rules
