-- A packet comes to an end, which replies where a reply is owed; what the end does then is left to its user.
use Rattle.std.specs.Prelude.{ℕ, slice_get, Option, Some, None, if◌then◌else◌}
use Rattle.item_world.specs.declared.emitted.Emitted.{Emitted}
use Rattle.item_world.specs.declared.side.Side.{Side}
use Rattle.item_world.specs.Side.{other}
use Rattle.item_world.specs.World.{World, has_passed, receives, marked_delivered}

-- packet k, which is x, comes to the other end, which replies where a reply is owed
abbrev pub with_arrival : World → ℕ → Emitted → World
with_arrival w k x = receives (marked_delivered w k x) (other x.side) x.bytes

abbrev pub landed : World → ℕ → Option Emitted → Option (Side × World)
landed w k None = None
landed w k (Some x) = if has_passed w x then None else Some (other x.side, with_arrival w k x)

-- the end that packet k comes to, and the world once that end has received the packet and replied, if a reply is owed;
-- none where there is no packet k, or where packet k lives no longer
abbrev pub landing : World → ℕ → Option (Side × World)
landing w k = landed w k (slice_get w.bag k)

-- the end that a landing is at
abbrev pub end_reached : Option (Side × World) → Option Side
end_reached None = None
end_reached (Some l) = Some l.0

-- the world after a landing, if there is one
abbrev pub world_reached : World → Option (Side × World) → World
world_reached w None = w
world_reached w (Some l) = l.1
