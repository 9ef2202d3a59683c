use Rattle.std.proofs.Common.{arith}
use Rattle.std.proofs.lemmas.Grind.{common_steps}
use Rattle.xns_dump.specs.Layers.Packets.{route_text}
use Rattle.xns_dump.proofs.layers.packets.append_route.Goals as goal

pub returns : goal.returns
unfolding route_text
returns c = grind (arith, common_steps)
