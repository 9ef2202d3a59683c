use Rattle.std.proofs.Common.{ℕ, ◌<◌, true, get_or}
use Rattle.courier_notation.proofs.lexemes.front_and_rest.Given as goal

abbrev pub invariant-loop-i : goal.invariant-loop-i
invariant-loop-i g l = (k : ℕ) → k < l.i → goal.F-post g l.passes (get_or l.bytes k 0) true
