-- What the steps of an end add to its history: nothing of it is ever taken back.
use Rattle.std.specs.Prelude.{◌≡◌, ◌⊎◌, ℕ, ◌+◌, ◌<◌, ◌≤◌, true, List, [], ◌++◌, length, slice_get, Some, None, Ok}
use Rattle.xns_spp.specs.declared.item.Item.{Item}
use Rattle.xns_spp.specs.Header.{system_bit, has_bit, brings_item}
use Rattle.xns_spp.specs.Item.{item_in}
use Rattle.xns_spp.specs.Packet.{SppPacketModel, spp_packet_of}
use Rattle.xns_spp.specs.Receiving.{numbers_in}
use Rattle.xns_spp.specs.Sending.{data_packet, system_packet}
use Rattle.xns_spp.specs.State.{State, window_top}

-- ys is xs followed by some list
abbrev pub Begins : {X : Type 0} → List X → List X → Type 0
Begins {X} xs ys = (rest : List X) × (xs ++ rest ≡ ys)

-- nothing has happened at the end yet
pub record IsFresh (s : State) : Type 0 where
  pub accepted : s.accepted ≡ []
  pub acknowledged : s.acknowledged ≡ 0
  pub sent : s.sent ≡ 0
  pub allowed : s.allowed ≡ 0
  pub taken : s.taken ≡ []
  pub early : (k : ℕ) → s.early k ≡ None
  pub handed : s.handed ≡ 0

-- s goes on as t: each list begins the later one, and no number falls
pub record Grows (s t : State) : Type 0 where
  pub accepted : Begins s.accepted t.accepted
  pub acknowledged : s.acknowledged ≤ t.acknowledged
  pub sent : s.sent ≤ t.sent
  pub allowed : s.allowed ≤ t.allowed
  pub taken : Begins s.taken t.taken
  pub handed : s.handed ≤ t.handed
  pub top : window_top s ≤ window_top t

-- s goes on as t with the same items accepted and handed up
pub record Stays (s t : State) : Type 0 where
  pub accepted : t.accepted ≡ s.accepted
  pub handed : t.handed ≡ s.handed

-- s goes on as t with nothing heard: the same items are taken, early and acknowledged
pub record HearsNothing (s t : State) : Type 0 where
  pub taken : t.taken ≡ s.taken
  pub early : t.early ≡ s.early
  pub acknowledged : t.acknowledged ≡ s.acknowledged

-- the bytes bring item x to an end, and its number is read as k
pub record Brings (s : State) (b : List ℕ) (k : ℕ) (x : Item) : Type 0 where
  pub packet : SppPacketModel
  pub read : spp_packet_of b ≡ Ok packet
  pub brings : brings_item packet.header ≡ true
  pub number : (numbers_in s packet).sequence ≡ Some k
  pub item : item_in packet ≡ x

-- item x has come under number k: the bytes bring it, or it came early before
abbrev pub HasCome : State → List ℕ → ℕ → Item → Type 0
HasCome s b k x = Brings s b k x ⊎ (s.early k ≡ Some x)

-- s goes on as t with so many items taken that have come: those from the next number on
pub record Takes (s : State) (b : List ℕ) (t : State) (took : ℕ) : Type 0 where
  pub items : List Item
  pub taken : t.taken ≡ s.taken ++ items
  pub count : length items ≡ took
  pub next : (i : ℕ) (x : Item) → slice_get items i ≡ Some x → HasCome s b (length s.taken + i) x

-- the bytes acknowledge so many items
pub record Acknowledges (s : State) (b : List ℕ) (n : ℕ) : Type 0 where
  pub packet : SppPacketModel
  pub read : spp_packet_of b ≡ Ok packet
  pub number : (numbers_in s packet).acknowledge ≡ Some n

-- a packet without an item
pub record IsSystemPacket (s : State) (p : SppPacketModel) : Type 0 where
  pub control : ℕ
  pub small : control < 256
  pub system : has_bit control system_bit ≡ true
  pub is : p ≡ system_packet s control

-- the packet of an accepted item that is not acknowledged, and that was sent once s has gone on as t
pub record IsItemPacket (s t : State) (p : SppPacketModel) : Type 0 where
  pub number : ℕ
  pub item : Item
  pub accepted : slice_get s.accepted number ≡ Some item
  pub unacknowledged : s.acknowledged ≤ number
  pub sent : number < t.sent
  pub is : p ≡ data_packet s number item

abbrev pub IsOwnPacket : State → State → SppPacketModel → Type 0
IsOwnPacket s t p = IsSystemPacket s p ⊎ IsItemPacket s t p
