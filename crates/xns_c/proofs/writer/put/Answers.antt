use Rattle.std.proofs.lemmas.Grind.{common_steps}
use Rattle.std.proofs.Common.{arith, rules}
use Rattle.xns_c.proofs.writer.put.Goals as goal

pub returns : goal.returns
returns c = record { written = λ _. grind (arith, common_steps); stays = search rules }
