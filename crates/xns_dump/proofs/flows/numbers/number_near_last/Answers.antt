use Rattle.std.proofs.Common.{rules}
use Rattle.xns_dump.proofs.flows.numbers.number_near_last.Goals as goal

pub returns-in_default : goal.returns-in_default
returns-in_default c = search rules
