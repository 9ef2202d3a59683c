use Rattle.std.proofs.Common.{◌≡◌, ◌++◌, take, drop}
use Rattle.xns_calls.specs.Acknowledged.{nearer}
use Rattle.xns_calls.proofs.aheads.bring_nearer.Given as goal

-- the acknowledgements up to here are nearer
abbrev pub invariant-loop-ahead : goal.invariant-loop-ahead
invariant-loop-ahead l = l.kept ≡ nearer (take l.ahead-index l.fn.kept) ++ drop l.ahead-index l.fn.kept
