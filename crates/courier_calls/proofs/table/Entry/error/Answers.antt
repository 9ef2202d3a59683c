use Rattle.std.proofs.Common.{arith}
use Rattle.std.proofs.lemmas.Grind.{common_steps}
use Rattle.courier_calls.proofs.table.Entry.error.Goals as goal

pub returns-then-error-number : goal.returns-then-error-number
returns-then-error-number c = grind (arith, common_steps)
