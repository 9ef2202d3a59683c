use Rattle.std.proofs.Common.{length}
use Rattle.xns_captures.specs.Times.{resolution_of}
use Rattle.xns_captures.proofs.Resolutions.{Gives}
use Rattle.xns_captures.proofs.options.read_resolution.Given as goal

-- the options that are left give the resolution that all give
abbrev pub invariant-loop-rest : goal.invariant-loop-rest
invariant-loop-rest l = Gives l.fn.order l.rest (resolution_of l.fn.order l.fn.options)

abbrev pub decreases-loop-rest : goal.decreases-loop-rest
decreases-loop-rest l = length l.rest
