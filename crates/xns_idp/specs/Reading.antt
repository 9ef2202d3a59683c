-- The packet at the front of bytes, by the places of its fields, or the first fault (XSIS 028112, Internet Datagram Protocol, Packet
-- Format).
use Rattle.std.specs.Prelude.{ℕ, ◌+◌, ◌*◌, ◌%◌, ◌==◌, nat_lt, not, if◌then◌else◌, List, length, slice_index, slice_range, Option, Some}
use Rattle.std.specs.Prelude.{None, Result, Ok, Err}
use Rattle.xns_idp.specs.Checksum.{words, cycle_checksum}
use Rattle.xns_idp.specs.Packet.{PacketModel, most_packet, packet_model}
use Rattle.xns_idp.specs.declared.address.Address.{Address}
use Rattle.xns_idp.specs.declared.packet.Packet.{Packet}
use Rattle.xns_idp.specs.declared.fault.IdpFault.{IdpFault}
use Rattle.xns_idp.specs.declared.fault.IdpFault.TheVariants.{Short, LengthSmall, LengthLarge, Cut, BadSum}

-- the numbers of two and of four bytes at a place, the first byte being the highest
abbrev pub word_at : List ℕ → ℕ → ℕ
word_at bytes i = 256 * slice_index bytes i + slice_index bytes (i + 1)

abbrev pub long_at : List ℕ → ℕ → ℕ
long_at bytes i = 65536 * word_at bytes i + word_at bytes (i + 2)

-- the network, host and socket at a place
unfoldable pub address_at : List ℕ → ℕ → Address
address_at bytes i = record { network = long_at bytes i; host = slice_range bytes (i + 4) (i + 10); socket = word_at bytes (i + 10) }

-- a length, and one more for the garbage byte where it is odd
abbrev pub made_even : ℕ → ℕ
made_even n = n + n % 2

-- the checksum of the packet's words after the checksum field, by the length field at place 2
abbrev pub computed_sum : List ℕ → ℕ
computed_sum bytes = cycle_checksum (words (slice_range bytes 2 (made_even (word_at bytes 2))))

-- the first fault of a packet's bytes; a checksum field of 65535 is compared with nothing
unfoldable pub packet_fault : List ℕ → Option IdpFault
packet_fault bytes =
    if nat_lt (length bytes) 30 then Some (Short (length bytes))
    else if nat_lt (word_at bytes 2) 30 then Some (LengthSmall (word_at bytes 2))
    else if nat_lt most_packet (word_at bytes 2) then Some (LengthLarge (word_at bytes 2))
    else if nat_lt (length bytes) (made_even (word_at bytes 2)) then Some (Cut (made_even (word_at bytes 2)) (length bytes))
    else if word_at bytes 0 == 65535 then None
    else if word_at bytes 0 == computed_sum bytes then None
    else Some (BadSum (word_at bytes 0) (computed_sum bytes))

-- the packet that stands in the places of the fields
unfoldable pub packet_fields : List ℕ → PacketModel
packet_fields bytes = record {
  summed = not (word_at bytes 0 == 65535);
  control = slice_index bytes 4;
  kind = slice_index bytes 5;
  target = address_at bytes 6;
  source = address_at bytes 18;
  body = slice_range bytes 30 (word_at bytes 2);
}

-- the value, unless there is a fault
abbrev pub unless : {X F : Type 0} → Option F → X → Result X F
unless None x = Ok x
unless (Some f) x = Err f

-- the packet at the front and how many bytes it takes, or the first fault
unfoldable pub packet_of : List ℕ → Result (PacketModel × ℕ) IdpFault
packet_of bytes = unless (packet_fault bytes) (packet_fields bytes, made_even (word_at bytes 2))

-- what `decode` returns, without where the packet lies in memory
abbrev pub decode_model : Result (Packet × ℕ) IdpFault → Result (PacketModel × ℕ) IdpFault
decode_model (Ok x) = Ok (packet_model x.0, x.1)
decode_model (Err f) = Err f
