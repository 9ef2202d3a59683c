use Rattle.std.proofs.Common.{arith, rules}
use Rattle.std.proofs.lemmas.Grind.{common_steps}
use Rattle.courier_types.proofs.writing.put_bytes.Goals as goal

pub loop-rest-preserved : goal.loop-rest-preserved
loop-rest-preserved c = grind (arith, common_steps)

pub returns-in-len1-clause-items : goal.returns-in-len1-clause-items
returns-in-len1-clause-items c = search rules
