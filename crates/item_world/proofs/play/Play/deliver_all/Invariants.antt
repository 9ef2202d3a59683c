use Rattle.std.proofs.Common.{take, fold}
use Rattle.item_world.proofs.play.Play.deliver_all.Given as goal
use Rattle.item_world.specs.Events.{delivers}
use Rattle.item_world.specs.Play.{StepsBy}

-- the packets so far are delivered
abbrev pub invariant-loop-number : goal.invariant-loop-number
invariant-loop-number l = StepsBy l.fn.self l.self (λ w. fold delivers w (take l.number-index l.numbers))
