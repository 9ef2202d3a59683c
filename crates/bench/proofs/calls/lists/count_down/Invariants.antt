use Rattle.std.proofs.Common.{◌≡◌, ◌++◌, map}
use Rattle.courier_types.specs.Value.{value_model}
use Rattle.bench.specs.Lists.{counted}
use Rattle.bench.proofs.calls.lists.count_down.Given as goal

abbrev pub invariant-loop-left : goal.invariant-loop-left
invariant-loop-left l = map value_model l.values.items ++ counted l.left ≡ counted l.count

abbrev pub decreases-loop-left : goal.decreases-loop-left
decreases-loop-left l = l.left
