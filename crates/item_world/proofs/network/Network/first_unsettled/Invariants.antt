use Rattle.item_world.proofs.network.Network.first_unsettled.Given as goal
use Rattle.item_world.specs.Network.{AreRested, IsNetwork}
use Rattle.item_world.specs.World.{World}

-- all packets before this one are settled
abbrev pub invariant-loop-number : goal.invariant-loop-number
invariant-loop-number l = (w : World) → IsNetwork l.self w → AreRested l.number w
