use Rattle.std.proofs.Common.{rules}
use Rattle.xns_small.specs.Exchange.{exchange_of}
use Rattle.xns_c.proofs.requesting.response_length.Goals as goal

pub returns : goal.returns
unfolding exchange_of
returns c = search rules steps 1000000
