use Rattle.xns_spp.specs.State.{State}
use Rattle.xns_world.specs.CallLaws.{ServerLaws}
use Rattle.xns_world.specs.ServeEnd.{IsServed}
use Rattle.xns_world.proofs.serving.ServingEnd.step_out.Given as goal
use Rattle.xns_world.specs.Settling.{after_steps, serve_step}

abbrev pub invariant-loop-step : goal.invariant-loop-step
invariant-loop-step g l = (s : g.row.S.Denot) (v : State) → ServerLaws g.S.Service.serving s → IsServed g.S.Service.serving s l.fn.self v → IsServed g.S.Service.serving s l.self (after_steps (serve_step g.S.Service.serving s) v l._step)
