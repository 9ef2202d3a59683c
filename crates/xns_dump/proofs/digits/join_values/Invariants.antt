use Rattle.std.proofs.Common.{◌≡◌, ◌*◌, ℕ, List, length, take, drop}
use Rattle.hex.specs.Hex.{decode_pairs}
use Rattle.hex.proofs.Pairs.{prepend}
use Rattle.xns_dump.specs.Dump.Digits.{HasValues}
use Rattle.xns_dump.proofs.digits.join_values.Given as goal

-- the digits so far are decoded
abbrev pub invariant-loop-i : goal.invariant-loop-i
invariant-loop-i l =
    (digits : List ℕ) → length digits ≡ length l.values → HasValues digits l.values →
    decode_pairs 0 digits ≡ prepend (take l.i l.bytes) (decode_pairs (2 * l.i) (drop (2 * l.i) digits))
