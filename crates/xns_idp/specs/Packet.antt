-- Packets, and the bytes that spell them (XSIS 028112, Internet Datagram Protocol, Packet Format).
use Rattle.std.specs.Prelude.{◌≡◌, ℕ, ◌+◌, ◌%◌, ◌<◌, ◌≤◌, ◌^◌, All, Bool, true, ◌&&◌, ◌==◌, if◌then◌else◌, List, [], ◌∷◌, ◌++◌, length, take}
use Rattle.std.specs.Prelude.{replicate}
use Rattle.std.specs.Int.{w16, w32, to_be_bytes}
use Rattle.std.specs.Str.{bytes_eq}
use Rattle.xns_idp.specs.Checksum.{words, cycle_checksum}
use Rattle.xns_idp.specs.declared.address.Address.{Address}
use Rattle.xns_idp.specs.declared.packet.Packet.{Packet}
use Rattle.xns_idp.specs.declared.packet.TheConstants.{MOST_DATA, MOST_PACKET}

-- a packet without where its body lies in memory
pub record PacketModel : Type 0 where
  pub summed : Bool
  pub control : ℕ
  pub kind : ℕ
  pub target : Address
  pub source : Address
  pub body : List ℕ

abbrev pub packet_model : Packet → PacketModel
packet_model p = record { summed = p.summed; control = p.control; kind = p.kind; target = p.target; source = p.source; body = p.body.now }

-- a packet of this type from `source` to `target` that is made to be sent: it is summed, and its transport control is 0
abbrev pub new_packet : ℕ → Address → Address → List ℕ → PacketModel
new_packet kind source target body = record { summed = true; control = 0; kind = kind; target = target; source = source; body = body }

-- the packet with more data behind its own
abbrev pub with_data_behind : PacketModel → List ℕ → PacketModel
with_data_behind p rest = record p { body = p.body ++ rest }

-- ---- the numbers are within their types' bounds

abbrev pub AreBytes : List ℕ → Type 0
AreBytes bytes = All (λ x. x < 256) bytes

pub record IsAddress (a : Address) : Type 0 where
  pub network : a.network < 2 ^ 32
  pub host_length : length a.host ≡ 6
  pub host : AreBytes a.host
  pub socket : a.socket < 2 ^ 16

pub record IsPacket (p : PacketModel) : Type 0 where
  pub control : p.control < 256
  pub kind : p.kind < 256
  pub target : IsAddress p.target
  pub source : IsAddress p.source
  pub body : AreBytes p.body

-- the broadcast host, which is every host (Network Addresses)
abbrev pub broadcast : List ℕ
broadcast = replicate 6 255

-- the addresses name one host and one socket, whatever their networks
abbrev pub same_place : Address → Address → Bool
same_place a b = bytes_eq a.host b.host && a.socket == b.socket

-- ---- the bytes of a packet

-- how many bytes of data a packet has at most (the limit is this project's, to bound memory; its number stands in the code)
abbrev pub most_data : ℕ
most_data = MOST_DATA

-- how many bytes a packet has at most, those of its header and its data without the garbage byte (the limit is this project's)
abbrev pub most_packet : ℕ
most_packet = MOST_PACKET

-- network, host, socket (Network Addresses)
abbrev pub address_bytes : Address → List ℕ
address_bytes a = to_be_bytes w32 a.network ++ a.host ++ to_be_bytes w16 a.socket

-- the bytes of a packet after its checksum field, behind its data this garbage: length of header and data, transport control, packet type,
-- destination, source, data, garbage byte
unfoldable pub after_checksum : PacketModel → List ℕ → List ℕ
after_checksum p garbage =
    to_be_bytes w16 (30 + length p.body) ++ (p.control ∷ p.kind ∷ []) ++ address_bytes p.target ++ address_bytes p.source ++ p.body
    ++ garbage

-- the bytes of the packet with this garbage behind its data: in front stands the checksum of all words behind it, or 65535 for none
unfoldable pub packet_bytes : PacketModel → List ℕ → List ℕ
packet_bytes p garbage =
    to_be_bytes w16 (if p.summed then cycle_checksum (words (after_checksum p garbage)) else 65535) ++ after_checksum p garbage

-- the bytes spell the packet: it has at most `most_data` bytes of data, and behind an odd number of them stands one garbage byte of any
-- value
pub record SpellsPacket (p : PacketModel) (bytes : List ℕ) : Type 0 where
  pub size : length p.body ≤ most_data
  pub garbage : List ℕ
  pub garbage_length : length garbage ≡ length p.body % 2
  pub garbage_bytes : AreBytes garbage
  pub spells : bytes ≡ packet_bytes p garbage

-- the bytes that are written for a packet: the garbage byte is 0
unfoldable pub packet_spelling : PacketModel → List ℕ
packet_spelling p = packet_bytes p (replicate (length p.body % 2) 0)

-- the first `taken` of the bytes spell the packet
pub record IsPacketAtFront (bytes : List ℕ) (p : PacketModel) (taken : ℕ) : Type 0 where
  pub fits : IsPacket p
  pub length : taken ≤ length bytes
  pub spells : SpellsPacket p (take taken bytes)
