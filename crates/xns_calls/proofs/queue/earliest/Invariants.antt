use Rattle.std.proofs.Common.{◌≡◌, drop}
use Rattle.xns_calls.specs.AtEnd.{earliest}
use Rattle.xns_calls.proofs.queue.earliest.Given as goal

-- the rest leads from what is found so far where all lead from the first item
abbrev pub invariant-loop-early : goal.invariant-loop-early
invariant-loop-early l = earliest l.found (drop l.early-index l.items) ≡ earliest l.fn.first l.items
