-- Adding with end-around carry and rotating is doubling, modulo 65535.
use Rattle.std.proofs.Common.{◌≡◌, ℕ, ◌+◌, ◌*◌, ◌%◌, ◌<◌, ◌≤◌, List, [], ◌∷◌, All, eqb, ltb, refl, sym, ap, ◌∙◌, inl, inr, arith}
use Rattle.std.proofs.lemmas.Bool.{ltb-true, ltb-false, eqb-true, eqb-false, cases_Bool}
use Rattle.xns_idp.specs.Checksum.{cycle_checksum, sum_from, add_with_end_around_carry, rotated_left, added_and_rotated, zero_for_all_ones}
use Rattle.std.proofs.lemmas.List.Elements.{All-tail}
use Rattle.xns_idp.proofs.Sums.{from_nothing, sum_from-cons, sum_from-mod, cycle_checksum-is}

record IsSumOf (n total : ℕ) : Type 0 where
  small : n ≤ 65535
  same : n % 65535 ≡ total % 65535

added : (a b : ℕ) → a ≤ 65535 → b < 65536 → IsSumOf (add_with_end_around_carry a b) (a + b)
added a b ha hb = elim (cases_Bool (ltb 65535 (a + b))) [
  | inl over ↦ let h = ltb-true 65535 (a + b) over in rw over (record { small = omega arith; same = omega arith })
  | inr within ↦ let h = ltb-false 65535 (a + b) within in rw within (record { small = omega arith; same = refl })
]

rotated : (n total : ℕ) → IsSumOf n total → IsSumOf (rotated_left n) (2 * total)
rotated n total h = record { small = omega (arith, h.small); same = omega (arith, h.small, h.same) }

all_added : (sum : ℕ) (ws : List ℕ) → sum ≤ 65535 → All (λ w. w < 65536) ws → IsSumOf (added_and_rotated sum ws) (sum_from sum ws)
all_added sum [] small fits = record { small = small; same = ap (λ (n : ℕ). n % 65535) (sym (from_nothing sum)) }
all_added sum (w ∷ ws) small fits =
    let next = rotated (add_with_end_around_carry sum w) (sum + w) (added sum w small (fits 0 0 (omega arith))) in
    let rest = all_added (rotated_left (add_with_end_around_carry sum w)) ws next.small (All-tail (λ x. x < 65536) w ws fits) in
    record { small = rest.small; same = rest.same ∙ sum_from-mod _ (2 * (sum + w)) ws next.same ∙ ap (λ (n : ℕ). n % 65535) (sym (sum_from-cons sum w ws)) }

zeroed : (n : ℕ) → n ≤ 65535 → zero_for_all_ones n ≡ n % 65535
zeroed n small = elim (cases_Bool (eqb n 65535)) [
  | inl ones ↦ let h = eqb-true n 65535 ones in rw ones (omega arith)
  | inr other ↦ let h = eqb-false n 65535 other in rw other (omega arith)
]

pub cycle_checksum-rotated : (ws : List ℕ) → All (λ w. w < 65536) ws → cycle_checksum ws ≡ zero_for_all_ones (added_and_rotated 0 ws)
cycle_checksum-rotated ws fits =
    let h = all_added 0 ws (omega arith) fits in
    cycle_checksum-is ws ∙ sym h.same ∙ sym (zeroed _ h.small)
