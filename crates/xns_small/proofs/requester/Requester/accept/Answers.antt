use Rattle.std.proofs.Common.{rules}
use Rattle.xns_small.proofs.requester.Requester.accept.Goals as goal

pub returns : goal.returns
returns c = search rules
