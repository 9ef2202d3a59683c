-- What is true of both ends and of every packet at every moment.
use Rattle.std.specs.Prelude.{◌≡◌, ℕ, ◌+◌, ◌<◌, ◌≤◌, false, List, length, slice_get, Some, All}
use Rattle.xns_spp.specs.Ends.{most_pending}
use Rattle.xns_spp.specs.Growth.{Begins}
use Rattle.xns_spp.specs.Header.{is_system}
use Rattle.xns_spp.specs.Item.{item_in}
use Rattle.xns_spp.specs.Meant.{Meant, IsReduced}
use Rattle.xns_spp.specs.Packet.{SppPacketModel, IsSppPacket, spp_packet_spelling}
use Rattle.xns_spp.specs.State.{State, IsState, window_top}
use Rattle.item_world.specs.declared.emitted.Emitted.{Emitted}
use Rattle.item_world.specs.declared.moment.Moment.{Moment}
use Rattle.xns_spp.specs.declared.item.Item.{Item}
use Rattle.item_world.specs.declared.side.Side.{Side}
use Rattle.item_world.specs.Side.{other}
use Rattle.item_world.specs.World.{World, end_at}

-- two numbers are no further apart than a window or a backlog is long
pub record IsClose (n m : ℕ) : Type 0 where
  pub least : m ≤ n + most_pending
  pub most : n ≤ m + most_pending

-- the numbers are close to what the end that they count had taken when the packet was sent
pub record IsCloseTo (at : Moment) (m : Meant) : Type 0 where
  pub sequence : IsClose m.sequence at.receiver
  pub acknowledge : IsClose m.acknowledge at.sender
  pub allocation : IsClose m.allocation at.sender

-- what a packet says is true of its sender now
pub record IsSoundPacket (s : State) (p : SppPacketModel) (m : Meant) : Type 0 where
  -- a data packet carries the item of its number, which went out
  pub carries : is_system p.header ≡ false → slice_get s.accepted m.sequence ≡ Some (item_in p)
  pub went_out : is_system p.header ≡ false → m.sequence < s.sent
  -- no more is acknowledged than was taken, and no more allowed than there is room for
  pub acknowledges : m.acknowledge ≤ length s.taken
  pub allows : m.allocation ≤ window_top s

-- bytes that were sent at this moment spell a packet whose numbers were close to what both ends had taken
pub record IsSpelling (bytes : List ℕ) (at : Moment) : Type 0 where
  pub packet : SppPacketModel
  pub meant : Meant
  pub fits : IsSppPacket packet
  pub spells : bytes ≡ spp_packet_spelling packet
  pub reduced : IsReduced packet.header meant
  pub close : IsCloseTo at meant

-- the bytes that s sent to its peer spell a packet, and what the packet says is true of s now
pub record IsSoundSpelling (s peer : State) (x : Emitted) : Type 0 where
  pub says : IsSpelling x.bytes x.at
  pub sound : IsSoundPacket s says.packet says.meant
  -- neither end has taken fewer items than when the packet was sent
  pub sender : x.at.sender ≤ length s.taken
  pub receiver : x.at.receiver ≤ length peer.taken

-- item k of an end is x, and went out
pub record WentOut (s : State) (k : ℕ) (x : Item) : Type 0 where
  pub is : slice_get s.accepted k ≡ Some x
  pub sent : k < s.sent

-- An end s beside its peer. What s has taken begins what the peer accepted, and went out at the peer. Each early item
-- of s is the item of its number at the peer, and went out there. Of the items of s, the peer has taken no fewer than
-- are acknowledged at s, and no more than went out at s.
pub record StandsBesidePeer (s peer : State) : Type 0 where
  pub fits : IsState s
  pub taken : Begins s.taken peer.accepted
  pub went_out : length s.taken ≤ peer.sent
  pub early : (k : ℕ) (x : Item) → s.early k ≡ Some x → WentOut peer k x
  pub acknowledged : s.acknowledged ≤ length peer.taken
  pub reached : length peer.taken ≤ s.sent

pub record Holds (w : World) : Type 0 where
  pub ends : (side : Side) → StandsBesidePeer (end_at w side) (end_at w (other side))
  pub bag : All (λ x. IsSoundSpelling (end_at w x.side) (end_at w (other x.side)) x) w.bag
