use Rattle.std.proofs.Common.{take, fold}
use Rattle.xns_world.specs.Serve.{serve_hears}
use Rattle.xns_world.specs.ServeEnd.{ServeStepsBy}
use Rattle.xns_world.proofs.serve.ServePlay.serve_each.Given as goal

abbrev pub invariant-loop-packet : goal.invariant-loop-packet
invariant-loop-packet g l = ServeStepsBy g.S.Service.serving l.fn.self l.self (λ s w. fold (serve_hears g.S.Service.serving s) w (take l.packet-index l.packets))
