-- What can still become of a meeting's items.
use Rattle.std.specs.Prelude.{◌≡◌}
use Rattle.item_world.specs.Progress.{Finishes}
use Rattle.item_world.specs.World.{end_at}
use Rattle.item_world.specs.declared.side.Side.{Side}
use Rattle.host_world.specs.Meeting.{Meeting, at}

-- the ends of the world are those of the two connections, and some further steps of that world, which need nothing that was sent before, hand
-- up and acknowledge all that either had accepted
pub record CanFinish (m : Meeting) : Type 0 where
  pub ends : (side : Side) → end_at m.world side ≡ (at m side).story.state
  pub finishes : Finishes m.world
