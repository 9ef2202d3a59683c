use Rattle.std.proofs.Common.{◌≡◌, map}
use Rattle.courier_calls.specs.Calls.{raw_call}
use Rattle.xns_world.specs.CallLaws.{PartiesLaws}
use Rattle.xns_world.specs.CallOrder.{CallsHold}
use Rattle.xns_world.specs.CallPlay.{IsCalling}
use Rattle.xns_world.specs.CallWorld.{Parties, CallWorld, step}
use Rattle.item_world.specs.declared.side.Side.TheVariants.{A}
use Rattle.xns_world.proofs.calling.CallingEnd.step_out.Given as goal
use Rattle.xns_world.specs.Settling.{after_steps}

abbrev pub invariant-loop-step : goal.invariant-loop-step
invariant-loop-step g l = (p : Parties g.row.S.Denot) (w : CallWorld) → PartiesLaws p → CallsHold p w → p.calls ≡ map raw_call l.calls → IsCalling p l.fn.self w → IsCalling p l.self (after_steps (step p A) w l._step)
