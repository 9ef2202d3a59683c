use Rattle.xns_dump.specs.Layers.Packets.{idp_line}
use Rattle.std.proofs.lemmas.Grind.{common_steps}
use Rattle.std.proofs.Common.{arith}
use Rattle.xns_dump.proofs.layers.packets.append_idp_line.Goals as goal

pub returns : goal.returns
unfolding idp_line
returns c = grind (arith, common_steps)
