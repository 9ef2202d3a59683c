use Rattle.std.proofs.Common.{◌≡◌, length}
use Rattle.courier_sessions.specs.Answering.{entry_for}
use Rattle.courier_sessions.proofs.unlisted.entry_for.Given as goal

abbrev pub invariant-loop-rest : goal.invariant-loop-rest
invariant-loop-rest l = entry_for l.rest l.program ≡ entry_for l.programs l.program

abbrev pub decreases-loop-rest : goal.decreases-loop-rest
decreases-loop-rest l = length l.rest
