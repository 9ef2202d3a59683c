use Rattle.std.proofs.Common.{rules}
use Rattle.xns_calls.proofs.exchange.new_number_in.Goals as goal

pub returns-clause-value : goal.returns-clause-value
returns-clause-value c = search rules
