use Rattle.item_world.proofs.Networks.{AreListed}
use Rattle.item_world.proofs.network.Network.unsettled.Given as goal
use Rattle.item_world.specs.Network.{IsNetwork}
use Rattle.item_world.specs.World.{World}

-- the numbers before this one are listed
abbrev pub invariant-loop-number : goal.invariant-loop-number
invariant-loop-number l = (w : World) → IsNetwork l.self w → AreListed w l.numbers.items l.self.rested l.number
