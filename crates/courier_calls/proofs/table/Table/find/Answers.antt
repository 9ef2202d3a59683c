use Rattle.std.proofs.Common.{rules}
use Rattle.courier_calls.specs.Calls.{found}
use Rattle.courier_calls.proofs.table.Table.find.Goals as goal

pub returns-in-None : goal.returns-in-None
unfolding found
returns-in-None c = search rules
