use Rattle.std.proofs.Common.{rules}
use Rattle.xns_small.specs.Exchange.{asking_packet}
use Rattle.xns_small.proofs.requester.Requester.request.Goals as goal

pub returns : goal.returns
unfolding asking_packet
returns c = search rules
