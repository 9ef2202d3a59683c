-- What may happen in a play, as a list of small steps.
use Rattle.std.specs.Prelude.{ℕ, ◌+◌, Bool, List, [], ◌∷◌, ◌++◌, fold, Option, Some, None, if◌then◌else◌}
use Rattle.xns_spp.specs.Item.{IsItem}
use Rattle.xns_spp.specs.declared.item.Item.{Item}
use Rattle.item_world.specs.declared.emitted.Emitted.{Emitted}
use Rattle.item_world.specs.declared.event.Event.{Event}
use Rattle.item_world.specs.declared.event.Event.TheVariants.{Deliver, Rest, Tick, Foreign, Send, Take}
use Rattle.item_world.specs.declared.side.Side.{Side}
use Rattle.item_world.specs.Landing.{landing, world_reached}
use Rattle.item_world.specs.UserSteps.{resends, sends_system_packet}
use Rattle.item_world.specs.World.{World, flushes, ticks, overhears, sends, takes}

-- A small step: packet k comes to an end, which replies where a reply is owed; bytes from elsewhere come to an end; an
-- end is given an item, hands one up, flushes, ticks, sends its first item again, or sends a system packet. No event of
-- a play has the last two.
pub data SmallStep : Type 0 where
  arrival : ℕ → SmallStep
  noise : Side → List ℕ → SmallStep
  sending : Side → Item → SmallStep
  taking : Side → SmallStep
  flushing : Side → SmallStep
  ticking : Side → SmallStep
  resending : Side → SmallStep
  telling : Side → (asks : Bool) → SmallStep

abbrev pub stepped : World → SmallStep → World
stepped w (arrival k) = world_reached w (landing w k)
stepped w (noise side bytes) = overhears w side bytes
stepped w (sending side x) = sends w side x
stepped w (taking side) = takes w side
stepped w (flushing side) = flushes w side
stepped w (ticking side) = ticks w side
stepped w (resending side) = resends w side
stepped w (telling side asks) = sends_system_packet w side asks

-- the numbers of a step's item are within their types' bounds
abbrev pub IsStep : SmallStep → Type 0
IsStep (sending side x) = IsItem x
IsStep _ = Unit {0}

-- a step by which no item is accepted or handed up
abbrev pub IsOther : SmallStep → Type 0
IsOther (sending side x) = ⊥
IsOther (taking side) = ⊥
IsOther _ = Unit {0}

abbrev pub all_stepped : World → List SmallStep → World
all_stepped w steps = fold stepped w steps

-- ---- the steps of an event

-- packet k comes to an end, which replies where a reply is owed, and then flushes; nothing happens where packet k comes
-- to no end
abbrev pub arrival_steps : ℕ → Option (Side × World) → List SmallStep
arrival_steps k None = []
arrival_steps k (Some l) = arrival k ∷ flushing l.0 ∷ []

abbrev pub delivery_steps : World → ℕ → List SmallStep
delivery_steps w k = arrival_steps k (landing w k)

abbrev pub delivers : World → ℕ → World
delivers w k = all_stepped w (delivery_steps w k)

-- the steps by which packets are delivered in turn
abbrev pub delivery_steps_of : World → List ℕ → List SmallStep
delivery_steps_of w [] = []
delivery_steps_of w (k ∷ ks) = delivery_steps w k ++ delivery_steps_of (delivers w k) ks

-- the numbers of the packets that were never delivered, in order; the first packet of the list has number i
abbrev pub undelivered : ℕ → List Emitted → List ℕ
undelivered i [] = []
undelivered i (x ∷ xs) = if x.delivered then undelivered (i + 1) xs else i ∷ undelivered (i + 1) xs

abbrev pub steps_of : World → Event → List SmallStep
steps_of w (Deliver k) = delivery_steps w k
steps_of w Rest = delivery_steps_of w (undelivered 0 w.bag)
steps_of w (Tick side) = ticking side ∷ []
steps_of w (Foreign side bytes) = noise side bytes ∷ []
steps_of w (Send side x) = sending side x ∷ flushing side ∷ []
steps_of w (Take side) = taking side ∷ []

abbrev pub happens : World → Event → World
happens w e = all_stepped w (steps_of w e)

abbrev pub world_after : World → List Event → World
world_after w events = fold happens w events

-- the numbers of an event's item are within their types' bounds
abbrev pub IsEvent : Event → Type 0
IsEvent (Deliver k) = Unit {0}
IsEvent Rest = Unit {0}
IsEvent (Tick side) = Unit {0}
IsEvent (Foreign side bytes) = Unit {0}
IsEvent (Send side x) = IsItem x
IsEvent (Take side) = Unit {0}
