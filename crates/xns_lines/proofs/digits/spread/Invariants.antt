use Rattle.std.proofs.Common.{◌≡◌, ◌*◌, ◌++◌, take, drop}
use Rattle.xns_lines.specs.Text.{spaced}
use Rattle.xns_lines.proofs.digits.spread.Given as goal

-- the digits so far are spread
abbrev pub invariant-loop-i : goal.invariant-loop-i
invariant-loop-i l = take (5 * l.i) l.text ++ spaced (drop (4 * l.i) l.digits) ≡ spaced l.digits
