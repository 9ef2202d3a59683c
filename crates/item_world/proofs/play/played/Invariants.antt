use Rattle.std.proofs.Common.{take}
use Rattle.item_world.proofs.play.played.Given as goal
use Rattle.item_world.specs.Play.{IsPlayed}

abbrev pub invariant-loop-event : goal.invariant-loop-event
invariant-loop-event l = IsPlayed l.play l.setup (take l.event-index l.events)
