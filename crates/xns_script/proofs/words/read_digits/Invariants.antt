use Rattle.std.proofs.Common.{◌≡◌, take}
use Rattle.xns_script.specs.Word.{AreDigits, digits_from}
use Rattle.xns_script.proofs.words.read_digits.Given as goal

-- digits so far, and the number that they make
abbrev pub invariant-loop-byte : goal.invariant-loop-byte
invariant-loop-byte l = AreDigits (take l.byte-index l.word) × (l.number ≡ digits_from 0 (take l.byte-index l.word))
