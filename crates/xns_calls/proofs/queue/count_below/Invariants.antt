use Rattle.std.proofs.Common.{◌≡◌, ◌+◌, drop}
use Rattle.xns_calls.specs.Queue.{below}
use Rattle.xns_calls.proofs.queue.count_below.Given as goal

-- the items so far have numbers below this one
abbrev pub invariant-loop-early : goal.invariant-loop-early
invariant-loop-early l = (l.count ≡ l.early-index) × (below l.number l.items ≡ l.early-index + below l.number (drop l.early-index l.items))
