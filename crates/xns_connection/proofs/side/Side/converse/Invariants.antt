use Rattle.std.proofs.Common.{◌≡◌}
use Rattle.xns_spp.specs.Held.{StandsFor}
use Rattle.xns_spp.specs.Sending.{waiting_count}
use Rattle.xns_spp.specs.State.{State}
use Rattle.xns_connection.specs.Moving.{Rounds}
use Rattle.xns_connection.proofs.side.Side.converse.Given as goal

abbrev pub invariant-loop-alloc : goal.invariant-loop-alloc
invariant-loop-alloc l = record { rounds : (s : State) → StandsFor l.fn.endpoint s → (v : State) × StandsFor l.endpoint v × Rounds l.fn.self s l.self v; waits : (s : State) → StandsFor l.endpoint s → l.waiting ≡ waiting_count s }

abbrev pub decreases-loop-alloc : goal.decreases-loop-alloc
decreases-loop-alloc l = l.waiting
