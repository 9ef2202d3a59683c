use Rattle.std.proofs.Common.{◌≡◌, ◌<◌, ℕ, slice_index, Some}
use Rattle.hex.specs.Hex.{hex_digit_value}
use Rattle.xns_dump.proofs.digits.are_digits.Given as goal

-- each digit before `i` has its value, unless `greatest` shows that one was none
abbrev pub invariant-loop-i : goal.invariant-loop-i
invariant-loop-i l =
    l.greatest < 16 → (k : ℕ) → k < l.i → (hex_digit_value (slice_index l.digits k) ≡ Some (slice_index l.values k)) × (slice_index l.values k < 16)
