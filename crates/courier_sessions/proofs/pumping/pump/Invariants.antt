use Rattle.std.proofs.Common.{◌≡◌, [], length}
use Rattle.xns_spp.specs.Held.{StandsFor}
use Rattle.xns_spp.specs.State.{State}
use Rattle.courier_sessions.proofs.Pumps.{Going, Feeding}
use Rattle.courier_sessions.proofs.pumping.pump.Given as goal

abbrev pub invariant-loop : goal.invariant-loop
invariant-loop g l = (s : State) → StandsFor l.fn.endpoint s → Going g.S.Hearer.side (l.fn.side, s) l.side l.endpoint

abbrev pub decreases-loop : goal.decreases-loop
decreases-loop g l = length (g.S.Hearer.side.out l.side)

abbrev pub invariant-loop-2 : goal.invariant-loop-2
invariant-loop-2 g l =
    ((s : State) → StandsFor l.fn.endpoint s → Feeding g.S.Hearer.side (l.fn.side, s) l.side l.endpoint l.end l.counter)
    × (g.S.Hearer.side.out l.side ≡ [])
