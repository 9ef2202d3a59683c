use Rattle.std.proofs.Common.{fold}
use Rattle.xns_world.specs.CallPlay.{CallStepsBy}
use Rattle.xns_world.specs.CallWorld.{call_delivers}
use Rattle.xns_world.proofs.call_play.CallPlay.rest.Given as goal

-- the packets so far are delivered
abbrev pub invariant-loop-number : goal.invariant-loop-number
invariant-loop-number g l = CallStepsBy g.S.Service.serving l.calls l.fn.self l.self (λ p w. fold (call_delivers p) w l.yielded)
