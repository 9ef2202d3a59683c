use Rattle.std.proofs.Common.{◌≡◌, ◌<◌, drop}
use Rattle.courier_notation.specs.Lexing.{digits_number}
use Rattle.courier_notation.proofs.lexemes.number_of.Given as goal

abbrev pub invariant-loop-digit : goal.invariant-loop-digit
invariant-loop-digit l = record {
  small : l.number < 4294967296;
  so_far : digits_number l.number (drop l.digit-index l.digits) ≡ digits_number 0 l.digits;
}
