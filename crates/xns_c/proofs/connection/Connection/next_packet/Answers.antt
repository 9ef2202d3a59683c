use Rattle.std.proofs.Common.{arith}
use Rattle.std.proofs.lemmas.Grind.{common_steps}
use Rattle.xns_c.proofs.connection.Connection.next_packet.Goals as goal

pub returns-then-result-eq-OK-clause-put : goal.returns-then-result-eq-OK-clause-put
returns-then-result-eq-OK-clause-put c = grind (arith, common_steps)
