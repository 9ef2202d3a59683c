use Rattle.std.proofs.Common.{take}
use Rattle.std.specs.Prelude.{All}
use Rattle.xns_idp.specs.Packet.{AreBytes}
use Rattle.xns_world.proofs.serve.known_packets.Given as goal

abbrev pub invariant-loop-packet : goal.invariant-loop-packet
invariant-loop-packet l = All AreBytes (take l.packet-index l.packets)
