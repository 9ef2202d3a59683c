use Rattle.std.proofs.Common.{◌≡◌, ◌+◌, ◌-◌, ◌<◌, ◌≤◌, length, Some}
use Rattle.xns_agenda.specs.Times.{node}
use Rattle.xns_agenda.proofs.time_tree.descend.Given as goal

abbrev pub invariant-loop-at : goal.invariant-loop-at
invariant-loop-at l = record { time : node l.tree l.times l.at ≡ Some l.time; some : 1 ≤ l.at; within : l.at < length l.tree + length l.times }

abbrev pub decreases-loop-at : goal.decreases-loop-at
decreases-loop-at l = length l.tree + length l.times - l.at
