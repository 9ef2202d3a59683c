-- Two ends that are each other's peer, and what one of them makes of the other's packets.
use Rattle.std.specs.Prelude.{◌≡◌, ◌⊎◌, ℕ, ◌<◌, ◌≤◌, true, List, length, slice_get, Some, Ok}
use Rattle.xns_spp.specs.declared.ends.Ends.{Ends}
use Rattle.xns_spp.specs.declared.role.Role.TheVariants.{Responder}
use Rattle.xns_spp.specs.Ends.{is_open, is_ours_at}
use Rattle.xns_spp.specs.Header.{brings_item, wants_reply, reply_control}
use Rattle.xns_spp.specs.Meant.{Meant, as_meant}
use Rattle.xns_spp.specs.Packet.{SppPacketModel, spp_packet_of, spp_packet_spelling}
use Rattle.xns_spp.specs.Receiving.{numbers_in, receive_answer, after_receive}
use Rattle.xns_spp.specs.Sending.{system_packet, tick_packets}
use Rattle.xns_spp.specs.State.{State, window_top}

-- an end beside its peer: it knows the peer's address, and its identifier or none; one of both is a responder
pub record IsLinked (e f : Ends) : Type 0 where
  pub peer : e.peer ≡ f.own
  pub peer_id : (e.peer_id ≡ 0) ⊎ (e.peer_id ≡ f.id)
  pub one : (e.role ≡ Responder) ⊎ (f.role ≡ Responder)

-- a packet from the end to its peer, as far as the end knows its peer
pub record IsNamed (e : Ends) (p : SppPacketModel) : Type 0 where
  pub source : p.source ≡ e.own
  pub source_id : p.header.source_id ≡ e.id
  pub target : p.target ≡ e.peer
  pub target_id : p.header.target_id ≡ e.peer_id

-- the bytes are a packet of the connection, which is read as these numbers and acknowledges nothing that was not sent
pub record IsHeard (s : State) (b : List ℕ) (p : SppPacketModel) (m : Meant) : Type 0 where
  pub read : spp_packet_of b ≡ Ok p
  pub ours : is_ours_at s.ends p ≡ true
  pub numbers : numbers_in s p ≡ as_meant m
  pub behind : m.acknowledge ≤ s.sent

-- what the end makes of a packet that is heard: it replies to a packet that asks, knows what the packet acknowledges
-- and allows, takes the item where it is the next and there is room, and is open
pub record Counts (s : State) (b : List ℕ) (p : SppPacketModel) (m : Meant) : Type 0 where
  pub reply : wants_reply p.header ≡ true
      → (receive_answer s b).reply ≡ Some (spp_packet_spelling (system_packet (after_receive s b) reply_control))
  pub acknowledged : m.acknowledge ≤ (after_receive s b).acknowledged
  pub allowed : m.allocation < (after_receive s b).allowed
  pub takes : brings_item p.header ≡ true → m.sequence ≡ length s.taken → length s.taken ≤ window_top s
      → length s.taken < length (after_receive s b).taken
  pub opens : 0 < p.header.source_id → is_open (after_receive s b).ends ≡ true

-- the first packet of a tick asks for a reply
pub record Asks (s : State) : Type 0 where
  pub packet : SppPacketModel
  pub first : slice_get (tick_packets s) 0 ≡ Some packet
  pub asks : wants_reply packet.header ≡ true

-- an end goes on as one that knows the address and the identifier that the packet comes from
pub record Learns (e : Ends) (b : List ℕ) (f : Ends) : Type 0 where
  pub packet : SppPacketModel
  pub read : spp_packet_of b ≡ Ok packet
  pub ends : f ≡ record e { peer = packet.source; peer_id = packet.header.source_id }
