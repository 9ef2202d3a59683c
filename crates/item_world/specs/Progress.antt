-- The items of a world that are still to be handed up, and the steps that would hand them up.
use Rattle.std.specs.Prelude.{◌≡◌, ◌⊎◌, ◌≤◌, ◌<◌, ◌+◌, ◌-◌, ◌*◌, ℕ, false, List, length, Some, Ok, All, zero, suc, [], ◌∷◌}
use Rattle.xns_spp.specs.Numbers.{most_items}
use Rattle.xns_spp.specs.Sending.{is_full}
use Rattle.xns_spp.specs.Packet.{SppPacketModel, spp_packet_of}
use Rattle.xns_spp.specs.Peers.{IsLinked}
use Rattle.xns_spp.specs.declared.ends.Ends.{Ends}
use Rattle.item_world.specs.declared.emitted.Emitted.{Emitted}
use Rattle.item_world.specs.declared.event.Event.{Event}
use Rattle.item_world.specs.declared.event.Event.TheVariants.{Deliver, Rest, Tick, Take}
use Rattle.item_world.specs.declared.side.Side.{Side}
use Rattle.item_world.specs.declared.side.Side.TheVariants.{A, B}
use Rattle.item_world.specs.Events.{SmallStep, arrival, taking, flushing, ticking, stepped, all_stepped, world_after}
use Rattle.item_world.specs.Landing.{landing}
use Rattle.item_world.specs.Side.{other}
use Rattle.item_world.specs.World.{World, end_at, ticks, flushes, sent_at, handed_at}

-- an end ticks, flushes, or receives one of the packets that are sent from number n on
abbrev pub IsWire : ℕ → SmallStep → Type 0
IsWire n (arrival k) = n ≤ k
IsWire n (flushing side) = Unit {0}
IsWire n (ticking side) = Unit {0}
IsWire n _ = ⊥

-- A plain step: an end ticks, flushes, hands an item up, or receives one of the packets that are sent from number n on.
-- No item is accepted, and no packet that was sent before is needed.
abbrev pub IsPlainStep : ℕ → SmallStep → Type 0
IsPlainStep n (taking side) = Unit {0}
IsPlainStep n step = IsWire n step

-- w goes on as v, in which each item that an end of w had accepted is handed up at the other end and acknowledged, and
-- no other item was accepted. Neither end is full in v, unless the connection carries no more items that way.
pub record IsDone (w v : World) : Type 0 where
  pub accepted : (side : Side) → sent_at v side ≡ sent_at w side
  pub handed : (side : Side) → handed_at v (other side) ≡ sent_at w side
  pub acknowledged : (side : Side) → (end_at v side).acknowledged ≡ length (sent_at w side)
  pub free : (side : Side) → length (sent_at w side) < most_items → is_full (end_at v side) ≡ false

-- how many items of a side are not yet handed up at the other
abbrev pub pending : World → Side → ℕ
pending w side = length (sent_at w side) - (end_at w (other side)).handed

-- steps or events of a plain kind after which all is done, without any packet that was sent before: at most so many for
-- each item that is pending, and as many more
pub record FinishesBy {X : Type 0} (IsPlain : ℕ → X → Type 0) (after : World → List X → World) (each : ℕ) (w : World) : Type 0 where
  pub more : List X
  pub plain : All (IsPlain (length w.bag)) more
  pub few : length more ≤ each * (pending w A + pending w B + 1)
  pub done : IsDone w (after w more)

-- plain steps, at most twelve for each item
abbrev pub Finishes : World → Type 0
Finishes = FinishesBy IsPlainStep all_stepped 12

-- after some ticks, flushes and arrivals an item waits at the other end, or all that this end accepted is acknowledged
pub record Stirs (w : World) (side : Side) : Type 0 where
  pub more : List SmallStep
  pub wire : All (IsWire (length w.bag)) more
  pub comes : ((end_at (all_stepped w more) (other side)).handed < length (end_at (all_stepped w more) (other side)).taken)
      ⊎ (length (end_at (all_stepped w more) side).accepted ≤ (end_at (all_stepped w more) side).acknowledged)

-- a plain event of a play: one of the packets that are sent from number n on is delivered, an end ticks, or hands an item up
abbrev pub IsFurther : ℕ → Event → Type 0
IsFurther n (Deliver k) = n ≤ k
IsFurther n (Tick side) = Unit {0}
IsFurther n (Take side) = Unit {0}
IsFurther n _ = ⊥

-- plain events of a play, at most six for each item
abbrev pub FinishesByEvents : World → Type 0
FinishesByEvents = FinishesBy IsFurther world_after 6

-- ---- a fixed schedule, by which all is handed up

-- a round: each end ticks, then each packet comes that was never delivered, and then each end hands an item up
abbrev pub round : List Event
round = Tick A ∷ Tick B ∷ Rest ∷ Take A ∷ Take B ∷ []

-- the world after n rounds
unfoldable pub rounds : ℕ → World → World
rounds zero w = w
rounds (suc n) w = rounds n (world_after w round)

-- after three rounds for each pending item, and three more, all is done, and stays so
abbrev pub FinishesInRounds : World → Type 0
FinishesInRounds w = (n : ℕ) → 3 * (pending w A + pending w B + 1) ≤ n → IsDone w (rounds n w)

-- ---- where each end flushes after its tick and after each packet that came

abbrev pub ticked_out : World → Side → World
ticked_out w side = flushes (ticks w side) side

-- the first packet of the tick has come
abbrev pub came_first : World → Side → World
came_first w side = stepped (ticked_out w side) (arrival (length w.bag))

abbrev pub answered_out : World → Side → World
answered_out w side = flushes (came_first w side) (other side)

-- the reply has come
abbrev pub came_back : World → Side → World
came_back w side = stepped (answered_out w side) (arrival (length (ticked_out w side).bag))

abbrev pub knows_out : World → Side → World
knows_out w side = flushes (came_back w side) side

-- the first packet of the next tick has come
abbrev pub came_next : World → Side → World
came_next w side = stepped (ticked_out (knows_out w side) side) (arrival (length (knows_out w side).bag))

-- Each of the three packets comes. Where an item is still to come and none waits after the first packet, one waits after the third; where
-- none is to come, all is acknowledged after the second.
pub record StirsOut (w : World) (side : Side) : Type 0 where
  pub first : landing (ticked_out w side) (length w.bag) ≡ Some (other side, came_first w side)
  pub second : landing (answered_out w side) (length (ticked_out w side).bag) ≡ Some (side, came_back w side)
  pub settled : length (end_at w side).accepted ≤ length (end_at (came_first w side) (other side)).taken
      → length (end_at (came_back w side) side).accepted ≤ (end_at (came_back w side) side).acknowledged
  pub third : (end_at (came_first w side) (other side)).handed ≡ length (end_at (came_first w side) (other side)).taken
      → length (end_at (came_first w side) (other side)).taken < length (end_at w side).accepted
      → (landing (ticked_out (knows_out w side) side) (length (knows_out w side).bag) ≡ Some (other side, came_next w side))
      × ((end_at (came_next w side) (other side)).handed < length (end_at (came_next w side) (other side)).taken)

-- ---- what is known of the ends' addresses at every moment

-- if the bytes are a packet, the packet is from this end
abbrev pub IsFrom : Ends → List ℕ → Type 0
IsFrom e bytes = (p : SppPacketModel) → spp_packet_of bytes ≡ Ok p → (p.source ≡ e.own) × (p.header.source_id ≡ e.id)

pub record Linked (w : World) : Type 0 where
  pub ends : (side : Side) → IsLinked (end_at w side).ends (end_at w (other side)).ends
  pub bag : All (λ (x : Emitted). IsFrom (end_at w x.side).ends x.bytes) w.bag
