-- What the definitions imply: the statements of the laws, each under the name of its law.
use Rattle.std.specs.Prelude.{◌≡◌, ◌<◌, ◌≤◌, ℕ, true, false, List, [], length, take, fold, All, Some, None, is_ok}
use Rattle.std.specs.List.{filter}
use Rattle.xns_spp.specs.Meant.{as_meant}
use Rattle.xns_spp.specs.Receiving.{numbers_in, after_receive}
use Rattle.xns_spp.specs.declared.item.Item.{Item}
use Rattle.item_world.specs.declared.emitted.Emitted.{Emitted}
use Rattle.item_world.specs.declared.event.Event.{Event}
use Rattle.item_world.specs.declared.event.Event.TheVariants.{Foreign, Rest}
use Rattle.item_world.specs.declared.setup.Setup.{Setup}
use Rattle.item_world.specs.declared.side.Side.{Side}
use Rattle.item_world.specs.Side.{other}
use Rattle.item_world.specs.Setup.{IsSetup, IsGood}
use Rattle.item_world.specs.Later.{Continues, Later, Lands, StaysAway, does_land}
use Rattle.item_world.specs.Channel.{Channel, IsQuiet, Accepts, HandsUp, Move, IsHistory}
use Rattle.item_world.specs.Network.{IsNetwork, unsettled}
use Rattle.item_world.specs.declared.network.Network.{Network}
use Rattle.xns_spp.specs.Sending.{send_answer, take_answer, after_flush}
use Rattle.xns_spp.specs.State.{State}
use Rattle.item_world.specs.Events.{SmallStep, IsStep, IsOther, IsEvent, stepped, steps_of, all_stepped, delivers, undelivered, happens, world_after}
use Rattle.item_world.specs.Landing.{landing, end_reached}
use Rattle.item_world.specs.World.{World, start, end_at, moved, has_passed, flushes, sends, takes, channel_of, sent_packets, sent_at}
use Rattle.item_world.specs.World.{handed_at}
use Rattle.xns_spp.specs.Growth.{Begins}
use Rattle.item_world.specs.Invariant.{Holds, IsSoundSpelling}
use Rattle.item_world.specs.Progress.{Linked, Stirs, StirsOut, Finishes, FinishesByEvents, FinishesInRounds}

pub record EachStepKeepsTheOrder : Type 0 where
  pub start : (setup : Setup) → IsSetup setup → IsGood setup → Holds (start setup)
  pub each : (w : World) (s : SmallStep) → IsStep s → Holds w → Holds (stepped w s)
  pub land : (w : World) (k : ℕ) (l : Side × World) → Holds w → landing w k ≡ Some l → Holds l.1
  pub order : (w : World) (side : Side) → Holds w → Begins (handed_at w side) (sent_at w (other side))
  pub read : (w : World) (x : Emitted) → Holds w → has_passed w x ≡ false
      → (i : IsSoundSpelling (end_at w x.side) (end_at w (other x.side)) x) →
      numbers_in (end_at w (other x.side)) i.says.packet ≡ as_meant i.says.meant

pub record ItemsComeInOrder : Type 0 where
  pub begins : (setup : Setup) (events : List Event) (side : Side) → IsSetup setup → IsGood setup → All IsEvent events →
      Begins (handed_at (world_after (start setup) events) side) (sent_at (world_after (start setup) events) (other side))
  pub holds : (setup : Setup) (events : List Event) → IsSetup setup → IsGood setup → All IsEvent events →
      Holds (world_after (start setup) events)
  pub within : (setup : Setup) (events : List Event) (event : Event) (n : ℕ) → IsSetup setup → IsGood setup → All IsEvent events
      → IsEvent event →
      Holds (all_stepped (world_after (start setup) events) (take n (steps_of (world_after (start setup) events) event)))

abbrev pub ForeignBytesChangeNothing : Type 0
ForeignBytesChangeNothing = (w : World) (side : Side) (bytes : List ℕ) → happens w (Foreign side bytes) ≡ w

abbrev pub ARestDeliversWhatNeverWas : Type 0
ARestDeliversWhatNeverWas = (w : World) → happens w Rest ≡ fold delivers w (undelivered 0 w.bag)

abbrev pub TheBagNeverShrinks : Type 0
TheBagNeverShrinks = (w : World) (events : List Event) → Begins (sent_packets w) (sent_packets (world_after w events))

-- an end that flushes or receives accepts and hands up nothing, and the items that it has handed up stay
pub record WhatWasHandedUpStays : Type 0 where
  pub flush : (s : State) → Continues s (after_flush s)
  pub receive : (s : State) (b : List ℕ) → Continues s (after_receive s b)
  pub handed : (s t : State) → Continues s t → s.handed ≤ length s.taken → take t.handed t.taken ≡ take s.handed s.taken

pub record AWorldOnlyGoesOn : Type 0 where
  pub itself : (w : World) → Later w w
  pub further : (u v w : World) → Later u v → Later v w → Later u w
  pub moved : (w : World) (side : Side) (s : State) (bs : List (List ℕ)) → length (end_at w side).taken ≤ length s.taken
      → Later w (moved w side s bs)
  pub flush : (w : World) (side : Side) → Later w (flushes w side)
  pub land : (w : World) (k : ℕ) (l : Side × World) → landing w k ≡ Some l → Later w l.1

-- an end that sends and takes nothing leaves the network as it was
abbrev pub AQuietEndLeavesTheNetwork : Type 0
AQuietEndLeavesTheNetwork = (n : Network) (w : World) (side : Side) (s : State) → IsNetwork n w
    → length s.taken ≡ length (end_at w side).taken → IsNetwork n (moved w side s [])

abbrev pub APacketThatLandsIsReceived : Type 0
APacketThatLandsIsReceived = (w : World) (k : ℕ) (side : Side) (v : World) → landing w k ≡ Some (side, v) → Lands w k side v

-- a rest may leave out the packets that land nowhere as it begins: these never land again, however the world goes on
pub record ARestLeavesOutWhatIsSettled : Type 0 where
  pub left_out : (w : World) → unsettled w 0 w.bag ≡ filter (does_land w) (undelivered 0 w.bag)
  pub away : (w : World) → All (StaysAway w) (undelivered 0 w.bag)

-- each small step is a move of the channel; only an end that is given an item accepts one, and only an end that hands an item up does so
pub record EachStepIsAMove : Type 0 where
  pub each : (w : World) (s : SmallStep) → Holds w → Move (channel_of w) (channel_of (stepped w s))
  pub history : (setup : Setup) (steps : List SmallStep) → IsSetup setup → IsGood setup → All IsStep steps
      → IsHistory (λ n. channel_of (all_stepped (start setup) (take n steps)))
  pub quiet : (w : World) (s : SmallStep) → IsOther s → Holds w → IsQuiet (channel_of w) (channel_of (stepped w s))
  pub land : (w : World) (k : ℕ) (l : Side × World) → Holds w → landing w k ≡ Some l → IsQuiet (channel_of w) (channel_of l.1)
  pub send : (w : World) (side : Side) (x : Item) → is_ok (send_answer (end_at w side) x) ≡ true
      → Accepts (channel_of w) (channel_of (sends w side x)) side x
  pub take : (w : World) (side : Side) (x : Item) → Holds w → take_answer (end_at w side) ≡ Some x
      → HandsUp (channel_of w) (channel_of (takes w side)) side x

-- whatever the moves, what either side has handed up begins what the other accepted
abbrev pub MovesKeepTheOrder : Type 0
MovesKeepTheOrder = (c : ℕ → Channel) → IsHistory c → (n : ℕ) (side : Side) → Begins ((c n).handed side) ((c n).accepted (other side))

-- the end that moves goes on as the state that is given, and the other one stays
pub record AMoveIsOfOneEnd : Type 0 where
  pub here : (w : World) (side : Side) (s : State) (bs : List (List ℕ)) → end_at (moved w side s bs) side ≡ s
  pub there : (w : World) (side : Side) (s : State) (bs : List (List ℕ)) → end_at (moved w side s bs) (other side) ≡ end_at w (other side)
  pub land : (w : World) (k : ℕ) (l : Side × World) → landing w k ≡ Some l → end_at l.1 (other l.0) ≡ end_at w (other l.0)

-- where a packet comes to an end there is a landing, and where it comes to none there is none
pub record ALandingHasAnEnd : Type 0 where
  pub some : (w : World) (k : ℕ) (side : Side) → Some side ≡ end_reached (landing w k) → (v : World) × (landing w k ≡ Some (side, v))
  pub none : (w : World) (k : ℕ) → None ≡ end_reached (landing w k) → landing w k ≡ None

-- the laws that a play of another crate over the network stands on
pub record NetworkLaws : Type 0 where
  pub stays : WhatWasHandedUpStays
  pub goes_on : AWorldOnlyGoesOn
  pub quiet : AQuietEndLeavesTheNetwork
  pub lands : APacketThatLandsIsReceived
  pub rest : ARestLeavesOutWhatIsSettled
  pub items : EachStepIsAMove
  pub moves : AMoveIsOfOneEnd
  pub reached : ALandingHasAnEnd

-- From every world that small steps lead to, whatever was lost, repeated or late before, a few plain steps lead to a
-- world in which all that was accepted is handed up and acknowledged. Some steps without a take lead to a world in
-- which an item waits, or in which all is acknowledged.
pub record NoWorldIsStuck : Type 0 where
  pub starts : (setup : Setup) → Linked (start setup)
  pub each : (w : World) (s : SmallStep) → IsStep s → Holds w → Linked w → Linked (stepped w s)
  pub stirs : (w : World) (side : Side) → Holds w → Linked w → Stirs w side
  pub stirs_out : (w : World) (side : Side) → Holds w → Linked w
      → (end_at w side).acknowledged < length (end_at w side).accepted → StirsOut w side
  pub world : (w : World) → Holds w → Linked w → Finishes w
  pub always : (setup : Setup) (steps : List SmallStep) → IsSetup setup → IsGood setup → All IsStep steps
      → Finishes (all_stepped (start setup) steps)
  pub by_events : (setup : Setup) (events : List Event) → IsSetup setup → IsGood setup → All IsEvent events
      → FinishesByEvents (world_after (start setup) events)
  -- a fixed schedule finishes too, over a network that from now on delivers what is sent: old packets that come too do no harm
  pub by_rounds : (setup : Setup) (events : List Event) → IsSetup setup → IsGood setup → All IsEvent events
      → FinishesInRounds (world_after (start setup) events)
