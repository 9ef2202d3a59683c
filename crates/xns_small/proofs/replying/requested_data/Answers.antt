use Rattle.std.proofs.Common.{rules}
use Rattle.xns_small.proofs.replying.requested_data.Goals as goal

pub returns : goal.returns
returns c = search rules
