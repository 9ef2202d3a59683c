-- What the definitions imply: the statements of the laws, each under the name of its law.
use Rattle.std.specs.Prelude.{◌≡◌, ◌<◌, ◌≤◌, ◌+◌, ◌-◌, ◌%◌, ◌∷◌, ◌++◌, ◌↔◌, ◌⊎◌, All, Bool, IsTrue, List, [], ℕ, max, is_ok, is_some}
use Rattle.std.specs.Prelude.{length, map, nat_lt, take, true, false, slice_get, Ok, Err, Some, None}
use Rattle.xns_idp.specs.Packet.{PacketModel, AreBytes, IsAddress, IsPacketAtFront}
use Rattle.xns_idp.specs.Reading.{made_even}
use Rattle.xns_idp.specs.declared.address.Address.{Address}
use Rattle.xns_spp.specs.Ends.{IsEnds, is_open, is_ours_at, is_for_responder, most_pending}
use Rattle.xns_spp.specs.Growth.{IsFresh, Grows, Stays, HearsNothing, HasCome, Takes, Acknowledges, IsOwnPacket}
use Rattle.xns_spp.specs.Header.{IsHeader, SpellsHeader, header_spelling, header_of, system_bit, reply_control, has_bit, is_system}
use Rattle.xns_spp.specs.Header.{brings_item, wants_reply}
use Rattle.xns_spp.specs.Item.{IsItem, IsShortItem, item_in}
use Rattle.xns_spp.specs.Meant.{Meant, own_meant, IsReduced, as_meant}
use Rattle.xns_spp.specs.Nearest.{field_round, half_round, nearest, IsNearest}
use Rattle.xns_spp.specs.Packet.{SppPacketModel, IsSppPacket, IsSppPacketAtFront, spelled, spp_packet_spelling, spp_packet_of}
use Rattle.xns_spp.specs.Peers.{IsLinked, IsNamed, IsHeard, Counts, Asks, Learns}
use Rattle.xns_spp.specs.Receiving.{numbers_in, receive_answer, after_receive, arrival_fault, reply_packet, is_ours, IsOursAtFront}
use Rattle.xns_spp.specs.Sending.{data_packet, system_packet, flush_packets, flush_answer, tick_packets, tick_answer, is_full, send_answer}
use Rattle.xns_spp.specs.Sending.{take_answer, waiting_count, after_send, after_take, after_flush, after_tick}
use Rattle.xns_spp.specs.State.{State, IsState, window_top, send_limit, initiator_state, responder_state}
use Rattle.xns_spp.specs.Telling.{system_control, told_packet, told_answer, resend_packet, resend_answer, after_resend, room_to_send}
use Rattle.xns_spp.specs.declared.dropped.Dropped.{Dropped}
use Rattle.xns_spp.specs.declared.dropped.Dropped.TheVariants.{NotIdp}
use Rattle.xns_spp.specs.declared.ends.Ends.{Ends}
use Rattle.xns_spp.specs.declared.header.Header.{Header}
use Rattle.xns_spp.specs.declared.item.Item.{Item}
use Rattle.xns_spp.specs.declared.role.Role.TheVariants.{Responder}

pub record WrittenHeaderIsReadAgain : Type 0 where
  pub again : (f : Header) (rest : List ℕ) → IsHeader f → header_of (header_spelling f ++ rest) ≡ Ok (f, rest)
  pub found : (b : List ℕ) (f : Header) (rest : List ℕ) → AreBytes b → header_of b ≡ Ok (f, rest) → IsHeader f × SpellsHeader f rest b

pub record NearestNumberIsReadBack : Type 0 where
  pub back : (reference v : ℕ) → reference ≤ v + half_round → v < reference + half_round → nearest reference (v % field_round) ≡ Some v
  pub unique : (reference field v w : ℕ) → IsNearest reference field v → IsNearest reference field w → v ≡ w
  pub found : (reference field v : ℕ) → field < field_round → nearest reference field ≡ Some v → IsNearest reference field v
  pub only : (reference field v : ℕ) → IsNearest reference field v → nearest reference field ≡ Some v
  pub fields : (s : State) (p : SppPacketModel) (m : Meant) → IsNearest (length s.taken) p.header.sequence m.sequence →
      IsNearest s.sent p.header.acknowledge m.acknowledge → IsNearest s.sent p.header.allocation m.allocation → numbers_in s p ≡ as_meant m

pub record WrittenPacketIsReadAgain : Type 0 where
  pub spells : (p : SppPacketModel) (rest : List ℕ) → IsSppPacket p → IsSppPacketAtFront (spp_packet_spelling p ++ rest) p
  pub again : (p : SppPacketModel) (rest : List ℕ) → IsSppPacket p → spp_packet_of (spp_packet_spelling p ++ rest) ≡ Ok p
  pub size : (p : SppPacketModel) → IsSppPacket p → length (spp_packet_spelling p) ≡ made_even (42 + length p.body)

pub record PacketAtFrontIsItsSpelling : Type 0 where
  pub found : (b : List ℕ) (p : SppPacketModel) → AreBytes b → spp_packet_of b ≡ Ok p → IsSppPacketAtFront b p
  pub only : (b : List ℕ) (p : SppPacketModel) → IsSppPacketAtFront b p → spp_packet_of b ≡ Ok p
  pub no_packet : (b : List ℕ) → spp_packet_of b ≡ Err NotIdp → (p : PacketModel) (taken : ℕ) → ¬ (IsPacketAtFront b p taken)
  pub none : (b : List ℕ) (why : Dropped) → spp_packet_of b ≡ Err why → (p : SppPacketModel) → ¬ (IsSppPacketAtFront b p)

abbrev pub OursIsAPacketAtTheFront : Type 0
OursIsAPacketAtTheFront = (s : State) (b : List ℕ) → AreBytes b → (IsTrue (is_ours s b) ↔ IsOursAtFront s b)

-- a packet is for a responder, by its addresses and identifiers, exactly where the responder's end says that the
-- packet's bytes are its own
abbrev pub APacketForAResponderIsItsOwn : Type 0
APacketForAResponderIsItsOwn = (s : State) (b : List ℕ) (p : SppPacketModel) → s.ends.role ≡ Responder → spp_packet_of b ≡ Ok p →
    is_ours s b ≡ is_for_responder s.ends.own s.ends.id s.ends.peer s.ends.peer_id p

pub record ForeignBytesChangeNothing : Type 0 where
  pub after : (s : State) (b : List ℕ) → is_ours s b ≡ false → after_receive s b ≡ s
  pub answer : (s : State) (b : List ℕ) → is_ours s b ≡ false → ((receive_answer s b).took ≡ 0) × ((receive_answer s b).reply ≡ None)

pub record OwnPacketsArePackets : Type 0 where
  pub data_packet : (s : State) (i : ℕ) (x : Item) → IsState s → slice_get s.accepted i ≡ Some x → IsSppPacket (data_packet s i x)
  pub system_packet : (s : State) (control : ℕ) → IsState s → control < 256 → IsSppPacket (system_packet s control)
  pub flush : (s : State) → IsState s → All IsSppPacket (flush_packets s)
  pub tick : (s : State) → IsState s → All IsSppPacket (tick_packets s)
  pub reply : (s : State) (p q : SppPacketModel) → IsState s → IsSppPacket p → arrival_fault s p ≡ None → reply_packet s p ≡ Some q
      → IsSppPacket q
  pub resend : (s : State) (p : SppPacketModel) → IsState s → resend_packet s ≡ Some p → IsSppPacket p
  pub told : (s : State) (asks : Bool) (p : SppPacketModel) → IsState s → told_packet s asks ≡ Some p → IsSppPacket p

pub record OwnPacketsSayWhatIsMeant : Type 0 where
  pub item : (s : State) (i : ℕ) (x : Item) → item_in (data_packet s i x) ≡ x
  pub brings : (s : State) (i : ℕ) (x : Item) → is_open s.ends ≡ true → brings_item (data_packet s i x).header ≡ true
  pub item_fields : (s : State) (i : ℕ) (x : Item) → IsReduced (data_packet s i x).header (own_meant s i)
  pub none : (s : State) (control : ℕ) → has_bit control system_bit ≡ true → is_system (system_packet s control).header ≡ true
  pub no_data : (s : State) (control : ℕ) → (system_packet s control).body ≡ []
  pub system_fields : (s : State) (control : ℕ) → IsReduced (system_packet s control).header (own_meant s s.sent)
  -- a reply is owed to a system packet of an open end exactly where the packet asks for one
  pub asks : (s : State) (asks : Bool) → is_open s.ends ≡ true → wants_reply (system_packet s (system_control asks)).header ≡ asks

pub record RoomIsNearWhatWasTaken : Type 0 where
  pub least : (s : State) → IsState s → length s.taken ≤ window_top s + 1
  pub most : (s : State) → IsState s → window_top s < length s.taken + s.ends.window

pub record NewEndsAreFresh : Type 0 where
  pub initiator : (own peer : Address) (id window backlog : ℕ) → IsFresh (initiator_state own id peer window backlog)
  pub responder : (own peer : Address) (id peer_id window backlog : ℕ) → IsFresh (responder_state own id peer peer_id window backlog)

pub record BoundsHoldAfterEachStep : Type 0 where
  pub initiator : (own peer : Address) (id window backlog : ℕ) → IsAddress own → IsAddress peer → 0 < id → id < 65536 →
      1 ≤ window → window ≤ most_pending → 1 ≤ backlog → backlog ≤ most_pending → IsState (initiator_state own id peer window backlog)
  pub responder : (own peer : Address) (id peer_id window backlog : ℕ) → IsAddress own → IsAddress peer → 0 < id → id < 65536 → 0 < peer_id
      → peer_id < 65536 →
      1 ≤ window → window ≤ most_pending → 1 ≤ backlog → backlog ≤ most_pending
      → IsState (responder_state own id peer peer_id window backlog)
  pub send : (s : State) (x : Item) → IsState s → IsItem x → IsState (after_send s x)
  pub take : (s : State) → IsState s → IsState (after_take s)
  pub flush : (s : State) → IsState s → IsState (after_flush s)
  pub tick : (s : State) → IsState s → IsState (after_tick s)
  pub resend : (s : State) → IsState s → IsState (after_resend s)
  pub packet : (s : State) (b : List ℕ) (p : SppPacketModel) → IsState s → spp_packet_of b ≡ Ok p → IsSppPacket p
      → IsState (after_receive s b)
  pub receive : (s : State) (b : List ℕ) → IsState s → AreBytes b → IsState (after_receive s b)

pub record AnEndOnlyGrows : Type 0 where
  pub send : (s : State) (x : Item) → Grows s (after_send s x)
  pub take : (s : State) → Grows s (after_take s)
  pub flush : (s : State) → IsState s → Grows s (after_flush s)
  pub tick : (s : State) → IsState s → Grows s (after_tick s)
  pub resend : (s : State) → Grows s (after_resend s)
  pub receive : (s : State) (b : List ℕ) → Grows s (after_receive s b)

pub record OtherStepsAcceptAndHandUpNothing : Type 0 where
  pub flush : (s : State) → Stays s (after_flush s)
  pub tick : (s : State) → Stays s (after_tick s)
  pub resend : (s : State) → Stays s (after_resend s)
  pub receive : (s : State) (b : List ℕ) → Stays s (after_receive s b)

pub record OtherStepsHearNothing : Type 0 where
  pub send : (s : State) (x : Item) → HearsNothing s (after_send s x)
  pub take : (s : State) → HearsNothing s (after_take s)
  pub flush : (s : State) → HearsNothing s (after_flush s)
  pub tick : (s : State) → HearsNothing s (after_tick s)
  pub resend : (s : State) → HearsNothing s (after_resend s)

pub record OpenEndsLearnNothing : Type 0 where
  pub known : (s : State) (b : List ℕ) → is_open s.ends ≡ true → (after_receive s b).ends ≡ s.ends
  pub responder : (s : State) (b : List ℕ) → IsEnds s.ends → s.ends.role ≡ Responder → (after_receive s b).ends ≡ s.ends

pub record ItemsAreAcceptedOrChangeNothing : Type 0 where
  pub refused : (s : State) (x : Item) → is_ok (send_answer s x) ≡ false → after_send s x ≡ s
  pub accepted : (s : State) (x : Item) → is_ok (send_answer s x) ≡ true → after_send s x ≡ record s { accepted = s.accepted ++ x ∷ [] }
  pub fits : (s : State) (x : Item) → IsShortItem x → x.attention ≡ false → is_full s ≡ false → is_ok (send_answer s x) ≡ true
  pub room : (s : State) → IsState s → is_full s ≡ false → length s.accepted < s.acknowledged + s.ends.backlog
  pub waiting : (s : State) (x : Item) → is_ok (send_answer s x) ≡ true → waiting_count (after_send s x) ≡ waiting_count s
  -- an item that is accepted lowers the room to send by one, unless the room is 0 already; before the end is open the
  -- room is 0
  pub lowers : (s : State) (x : Item) → IsState s → is_ok (send_answer s x) ≡ true → room_to_send (after_send s x) ≡ room_to_send s - 1
  pub shut : (s : State) → IsState s → is_open s.ends ≡ false → room_to_send s ≡ 0
  -- where there is room to send, the end is not full, and the peer allows one more item than were accepted
  pub room_to_send : (s : State) → 0 < room_to_send s → (is_full s ≡ false) × (length s.accepted < s.allowed)

pub record TheNextItemIsHandedUp : Type 0 where
  pub some : (s : State) (x : Item) → take_answer s ≡ Some x → after_take s ≡ record s { handed = s.handed + 1 }
  pub more : (s : State) (x : Item) → take_answer s ≡ Some x → take (s.handed + 1) s.taken ≡ take s.handed s.taken ++ x ∷ []
  pub none : (s : State) → take_answer s ≡ None → after_take s ≡ s
  pub waits : (s : State) → nat_lt 0 (waiting_count s) ≡ is_some (take_answer s)
  pub fewer : (s : State) (x : Item) → take_answer s ≡ Some x → waiting_count (after_take s) < waiting_count s

pub record ItemsAreTakenFromTheNextNumberOn : Type 0 where
  pub taken : (s : State) (b : List ℕ) → Takes s b (after_receive s b) (receive_answer s b).took
  pub early : (s : State) (b : List ℕ) (k : ℕ) (x : Item) → (after_receive s b).early k ≡ Some x → HasCome s b k x

abbrev pub PacketsAcknowledgeWhatTheySay : Type 0
PacketsAcknowledgeWhatTheySay = (s : State) (b : List ℕ)
    → ((after_receive s b).acknowledged ≡ s.acknowledged) ⊎ Acknowledges s b (after_receive s b).acknowledged

pub record AcceptedItemsGoOut : Type 0 where
  pub flush : (s : State) → IsState s → All (IsOwnPacket s (after_flush s)) (flush_packets s)
  pub tick : (s : State) → All (IsOwnPacket s (after_tick s)) (tick_packets s)
  pub flush_bytes : (s : State) → flush_answer s ≡ map spp_packet_spelling (flush_packets s)
  pub tick_bytes : (s : State) → tick_answer s ≡ map spp_packet_spelling (tick_packets s)
  pub reply : (s : State) (b reply : List ℕ) → (receive_answer s b).reply ≡ Some reply
      → reply ≡ spp_packet_spelling (system_packet (after_receive s b) reply_control)
  pub resend : (s : State) (p : SppPacketModel) → resend_packet s ≡ Some p → IsOwnPacket s (after_resend s) p
  pub told : (s : State) (asks : Bool) (p : SppPacketModel) → told_packet s asks ≡ Some p → IsOwnPacket s s p
  pub resend_bytes : (s : State) → resend_answer s ≡ spelled (resend_packet s)
  pub told_bytes : (s : State) (asks : Bool) → told_answer s asks ≡ spelled (told_packet s asks)

pub record TheFirstItemGoesOutAgain : Type 0 where
  pub packet : (s : State) (x : Item) → is_open s.ends ≡ true → slice_get s.accepted s.acknowledged ≡ Some x → s.acknowledged < send_limit s
      → resend_packet s ≡ Some (data_packet s s.acknowledged x)
  pub sent : (s : State) → is_open s.ends ≡ true → s.acknowledged < send_limit s → (after_resend s).sent ≡ max s.sent (s.acknowledged + 1)
  pub same : (s : State) → s.acknowledged < s.sent → after_resend s ≡ s

-- each packet of an end goes from it to its peer, which takes the packet for one of the connection
pub record PacketsOfThePeerAreOurs : Type 0 where
  pub system : (s : State) (control : ℕ) → IsNamed s.ends (system_packet s control)
  pub item : (s : State) (i : ℕ) (x : Item) → IsNamed s.ends (data_packet s i x)
  pub own : (s t : State) (p : SppPacketModel) → IsOwnPacket s t p → IsNamed s.ends p
  pub ours : (e f : Ends) (p : SppPacketModel) → IsEnds e → IsEnds f → IsLinked e f → IsLinked f e → IsNamed e p → is_ours_at f p ≡ true

abbrev pub APacketThatIsHeardCounts : Type 0
APacketThatIsHeardCounts = (s : State) (b : List ℕ) (p : SppPacketModel) (m : Meant) → IsHeard s b p m → Counts s b p m

-- a tick asks, and where the first item that is not acknowledged may go out, all items go out that may
pub record ATickAsksUntilAllIsAcknowledged : Type 0 where
  pub asks : (s : State) → s.acknowledged < length s.accepted → Asks s
  pub sent : (s : State) → is_open s.ends ≡ true → s.acknowledged < send_limit s → (after_tick s).sent ≡ send_limit s

-- no part of the end changes but the number of items that were sent
pub record WhatGoesOutChangesWhatWasSentAlone : Type 0 where
  pub flush : (s : State) → after_flush s ≡ record s { sent = (after_flush s).sent }
  pub tick : (s : State) → after_tick s ≡ record s { sent = (after_tick s).sent }
  pub resend : (s : State) → after_resend s ≡ record s { sent = (after_resend s).sent }

abbrev pub AnEndLearnsWhereAPacketComesFrom : Type 0
AnEndLearnsWhereAPacketComesFrom = (s : State) (b : List ℕ) → ((after_receive s b).ends ≡ s.ends) ⊎ Learns s.ends b (after_receive s b).ends
