use Rattle.std.proofs.Common.{rules}
use Rattle.xns_calls.proofs.exchange.reached.Goals as goal

pub returns : goal.returns
returns c = search rules
