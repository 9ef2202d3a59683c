use Rattle.std.proofs.Common.{arith}
use Rattle.std.proofs.lemmas.Grind.{common_steps}
use Rattle.courier_calls.proofs.caller.Caller.has_out.Goals as goal

pub returns-clause-none : goal.returns-clause-none
returns-clause-none c = grind (arith, common_steps)
