use Rattle.xns_calls.specs.AtEnd.{both_ended, own_ended}
use Rattle.xns_calls.specs.Exchange.{scene_of}
use Rattle.xns_calls.proofs.Continued.{GoesOn}
use Rattle.xns_calls.proofs.LessKept.{count}
use Rattle.xns_calls.proofs.ending.end_all.Given as goal

abbrev pub ghost-in_turn : goal.ghost-in_turn
ghost-in_turn a = own_ended

abbrev pub invariant-loop-is_other : goal.invariant-loop-is_other
invariant-loop-is_other l = GoesOn (both_ended l.fn.flows.heading) l.fn.flows l.flows

abbrev pub decreases-loop-is_other : goal.decreases-loop-is_other
decreases-loop-is_other l = count (scene_of l.flows)
