use Rattle.xns_dump.specs.Layers.Sequenced.{connection_text}
use Rattle.std.proofs.lemmas.Grind.{common_steps}
use Rattle.std.proofs.Common.{arith}
use Rattle.xns_dump.proofs.layers.sequenced.append_connection.Goals as goal

pub returns : goal.returns
unfolding connection_text
returns c = grind (arith, common_steps)
