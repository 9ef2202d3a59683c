-- Pairs of hex digits.
use Rattle.std.proofs.Common.{◌≡◌, ℕ, zero, suc, ◌+◌, ◌*◌, ◌/◌, ◌%◌, ◌<◌, ◌≤◌, List, [], ◌∷◌, length, get_or, slice_index, slice_set, take, drop, Some, Ok, refl, ap, ◌∙◌, arith}
use Rattle.std.specs.Int.{from_le_bytes, w16}
use Rattle.std.specs.Simd.{first_chunks}
use Rattle.hex.specs.Hex.{decode_pairs, hex_digit_value, pair_value}
use Rattle.hex.proofs.Pairs.{decode_step, prepend}
use Rattle.xns_dump.specs.Dump.Digits.{HasValues}

-- two digits that read
pair_ok : (a b x y v i : ℕ) → hex_digit_value a ≡ Some x → hex_digit_value b ≡ Some y → v ≡ x * 16 + y → pair_value a b i ≡ Ok v
pair_ok a b x y v i ha hb e = rw (ha, hb, e) refl

-- the pair at a place
pub pair_at : (k : ℕ) (xs : List ℕ) (i : ℕ) (d : List ℕ) → i < k → 2 * k ≤ length xs → get_or (first_chunks 2 k xs) i d ≡ slice_index xs (2 * i) ∷ slice_index xs (2 * i + 1) ∷ []
pair_at zero xs i d lt le = absurd (omega arith)
pair_at (suc k) [] i d lt le = absurd (omega arith)
pair_at (suc k) (a ∷ []) i d lt le = absurd (omega arith)
pair_at (suc k) (a ∷ b ∷ xs) zero d lt le = refl
pair_at (suc k) (a ∷ b ∷ xs) (suc i) d lt le =
    let here : 2 * suc i ≡ suc (suc (2 * i)) = omega arith in
    let next : suc (suc (2 * i)) + 1 ≡ suc (suc (2 * i + 1)) = omega arith in
    rw (here, next) (pair_at k xs i d (omega arith) (omega arith))

-- a word of two bytes, the low one first
pub low_first : (x y : ℕ) → from_le_bytes w16 (x ∷ y ∷ []) ≡ x + y * 256
low_first x y = omega arith

-- one pair of values more is joined
pub joined_step : (digits values bytes : List ℕ) (pairs : List (List ℕ)) (d : List ℕ) (i word : ℕ) → length digits ≡ length values → HasValues digits values
    → 2 * i + 1 < length values → i < length bytes
    → pairs ≡ first_chunks 2 (length values / 2) values → word ≡ from_le_bytes w16 (get_or pairs i d)
    → decode_pairs 0 digits ≡ prepend (take i bytes) (decode_pairs (2 * i) (drop (2 * i) digits))
    → decode_pairs 0 digits
    ≡ prepend (take (i + 1) (slice_set bytes i ((word % 256 * 16 + word / 256) % 256))) (decode_pairs (2 * (i + 1)) (drop (2 * (i + 1)) digits))
joined_step digits values bytes pairs d i word same has fits room front is inv =
    let high = has (2 * i) (omega arith) in
    let low = has (2 * i + 1) (omega arith) in
    let small : slice_index values (2 * i) < 16 = high.1 in
    let small_too : slice_index values (2 * i + 1) < 16 = low.1 in
    let two : get_or pairs i d ≡ slice_index values (2 * i) ∷ slice_index values (2 * i + 1) ∷ [] =
    ap (λ (ps : List (List ℕ)). get_or ps i d) front ∙ pair_at (length values / 2) values i d (omega arith) (omega arith) in
    let worth : word ≡ slice_index values (2 * i) + slice_index values (2 * i + 1) * 256 = is ∙ ap (from_le_bytes w16) two ∙ low_first _ _ in
    let value : (word % 256 * 16 + word / 256) % 256 ≡ slice_index values (2 * i) * 16 + slice_index values (2 * i + 1) = omega (arith, worth, small, small_too) in
    decode_step digits bytes i _ (omega arith) room
    (pair_ok (slice_index digits (2 * i)) (slice_index digits (2 * i + 1)) _ _ _ (2 * i) high.0 low.0 value) inv
