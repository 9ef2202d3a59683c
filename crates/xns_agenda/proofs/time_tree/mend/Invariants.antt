use Rattle.std.proofs.Common.{◌+◌, ◌<◌, ◌≤◌, length}
use Rattle.xns_agenda.specs.Times.{IsTreeBut}
use Rattle.xns_agenda.proofs.time_tree.mend.Given as goal

abbrev pub invariant-loop-at : goal.invariant-loop-at
invariant-loop-at l = record { but : IsTreeBut l.tree l.times l.at; some : 1 ≤ l.at; within : l.at < length l.tree + length l.times }

abbrev pub decreases-loop-at : goal.decreases-loop-at
decreases-loop-at l = l.at
