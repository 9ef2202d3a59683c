use Rattle.std.proofs.Common.{rules}
use Rattle.xns_dump.proofs.flows.numbers.FlowNumbers.next_number.Goals as goal

pub returns : goal.returns
returns c = search rules
