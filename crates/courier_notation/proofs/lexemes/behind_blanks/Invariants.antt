use Rattle.std.proofs.Common.{◌≡◌, false, length}
use Rattle.courier_notation.specs.Lexing.{skipped}
use Rattle.courier_notation.proofs.lexemes.behind_blanks.Given as goal

abbrev pub invariant-loop-rest : goal.invariant-loop-rest
invariant-loop-rest l = skipped l.is_comment l.rest ≡ skipped false l.fn.text

abbrev pub decreases-loop-rest : goal.decreases-loop-rest
decreases-loop-rest l = length l.rest
