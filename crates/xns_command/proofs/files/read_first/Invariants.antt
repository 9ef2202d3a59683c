use Rattle.std.proofs.Common.{◌≤◌, ◌-◌, length, take}
use Rattle.std.specs.Io.KnownBytes.{Consumes}
use Rattle.xns_command.proofs.files.read_first.Given as goal

-- as many bytes were read as are counted
abbrev pub invariant-loop-count : goal.invariant-loop-count
invariant-loop-count g l =
    (l.count ≤ length l.first) × Consumes (g.R.Read.remaining l.fn.reader) (g.R.Read.remaining l.reader) (take l.count l.first)

abbrev pub decreases-loop-count : goal.decreases-loop-count
decreases-loop-count g l = length l.first - l.count
