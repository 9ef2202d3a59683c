-- What an end makes of bytes that were read, and of a packet that passed the tests or failed one.
use Rattle.std.specs.Prelude.{Option, Result}
use Rattle.xns_idp.specs.Reading.{unless}
use Rattle.xns_spp.specs.Arrival.{decided_on}
use Rattle.xns_spp.specs.Packet.{SppPacketModel}
use Rattle.xns_spp.specs.Receiving.{arrival, answer_to, after_decided}
use Rattle.xns_spp.specs.State.{State, numbers_of}
use Rattle.xns_spp.specs.declared.dropped.Dropped.{Dropped}
use Rattle.xns_spp.specs.declared.received.Received.{Received}

abbrev pub bytes_answer : State → Result SppPacketModel Dropped → Received
bytes_answer s o = answer_to s (decided_on s.ends (numbers_of s) s.early o)

abbrev pub after_bytes : State → Result SppPacketModel Dropped → State
after_bytes s o = after_decided s (decided_on s.ends (numbers_of s) s.early o)

abbrev pub packet_answer : Option Dropped → State → SppPacketModel → Received
packet_answer o s p = answer_to s (unless o (arrival s p))

abbrev pub after_packet : Option Dropped → State → SppPacketModel → State
after_packet o s p = after_decided s (unless o (arrival s p))
