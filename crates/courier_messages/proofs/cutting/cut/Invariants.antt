use Rattle.std.proofs.Common.{◌≡◌, ◌++◌, length}
use Rattle.courier_types.specs.Source.{bytes_of}
use Rattle.courier_messages.specs.Cutting.{cut_bytes}
use Rattle.courier_messages.proofs.cutting.cut.Given as goal

abbrev pub invariant-loop-rest : goal.invariant-loop-rest
invariant-loop-rest l = l.items.items ++ cut_bytes (bytes_of l.rest) ≡ cut_bytes (bytes_of l.words)

abbrev pub decreases-loop-rest : goal.decreases-loop-rest
decreases-loop-rest l = length l.rest
