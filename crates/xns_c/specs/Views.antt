-- What the structs of packets that C sees stand for.
use Rattle.std.specs.Prelude.{◌≡◌, ◌≤◌, ℕ, ◌+◌, List, drop, length, slice_range, Ok}
use Rattle.xns_idp.specs.Packet.{PacketModel}
use Rattle.xns_idp.specs.Reading.{packet_of}
use Rattle.xns_c.specs.Given.{is_yes}
use Rattle.xns_c.specs.Structs.{address_of_struct}
use Rattle.xns_c.specs.declared.packet.XnsPacket.{XnsPacket}

-- the packet with this body
abbrev pub packet_with : XnsPacket → List ℕ → PacketModel
packet_with p body = record {
  summed = is_yes p.summed;
  control = p.control;
  kind = p.kind;
  target = address_of_struct p.target;
  source = address_of_struct p.source;
  body = body;
}

-- the packet whose body stands at its place in the bytes
abbrev pub packet_in : XnsPacket → List ℕ → PacketModel
packet_in p bytes = packet_with p (slice_range bytes p.body_at (p.body_at + p.body_length))

-- the bytes begin with a packet of this kind
pub record HasPacket (IsSuch : PacketModel → Type 0) (bytes : List ℕ) : Type 0 where
  pub packet : PacketModel
  pub taken : ℕ
  pub reads : packet_of bytes ≡ Ok (packet, taken)
  pub such : IsSuch packet

-- the bytes begin with a packet of this kind, and its own data, behind so many bytes of its body, stand at a place within the bytes
pub record StandsIn (IsSuch : PacketModel → Type 0) (before : ℕ) (bytes : List ℕ) (place size : ℕ) : Type 0 where
  pub packet : PacketModel
  pub taken : ℕ
  pub reads : packet_of bytes ≡ Ok (packet, taken)
  pub such : IsSuch packet
  pub at : place ≡ 30 + before
  pub within : place + size ≤ length bytes
  pub body : slice_range bytes place (place + size) ≡ drop before packet.body
