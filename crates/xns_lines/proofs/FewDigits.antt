-- The digits of a byte, by the table of them.
use Rattle.std.proofs.Common.{◌≡◌, ◌∙◌, ap, sym, ℕ, zero, suc, ◌+◌, ◌*◌, ◌/◌, ◌%◌, ◌<◌, List, [], ◌∷◌, slice_index, drop, refl, arith}
use Rattle.std.proofs.lemmas.List.{get_or-drop}
use Rattle.std.proofs.lemmas.List.FromFn.{get_or-range_with_len}
use Rattle.std.specs.List.{range_with_len}
use Rattle.hex.specs.Hex.{encode_lower, encode_with, lower_digits}
use Rattle.hex.proofs.Pairs.{encode_with-drop}
use Rattle.xns_lines.specs.declared.digits.TheConstants.{PAIRS}

abbrev every_byte : List ℕ
every_byte = range_with_len 0 256

table : PAIRS ≡ encode_lower (every_byte)
unfolding encode_with
table = refl

drop-encode : (t bytes : List ℕ) (i : ℕ) → drop (2 * i) (encode_with t bytes) ≡ encode_with t (drop i bytes)
unfolding encode_with
drop-encode t bytes zero = refl
drop-encode t [] (suc i) =
    let two : 2 * suc i ≡ suc (suc (2 * i)) = omega arith in
    rw two refl
drop-encode t (a ∷ bytes) (suc i) =
    let two : 2 * suc i ≡ suc (suc (2 * i)) = omega arith in
    rw two (drop-encode t bytes i)

-- what the table has of a byte
pub pair_of : (byte : ℕ) → byte < 256
    → (slice_index PAIRS (2 * byte) ≡ slice_index lower_digits (byte / 16)) × (slice_index PAIRS (2 * byte + 1) ≡ slice_index lower_digits (byte % 16))
pair_of byte h =
    let same : slice_index every_byte byte ≡ byte = get_or-range_with_len 0 256 byte 0 h ∙ omega arith in
    let here = encode_with-drop lower_digits every_byte byte h in
    let two : drop (2 * byte) PAIRS ≡ slice_index lower_digits (byte / 16) ∷ slice_index lower_digits (byte % 16) ∷ encode_lower (drop (byte + 1) every_byte) = rw (table, drop-encode lower_digits every_byte byte, here, same) refl in
    let none : 2 * byte ≡ 2 * byte + 0 = omega arith in
    let first : slice_index PAIRS (2 * byte) ≡ slice_index (drop (2 * byte) PAIRS) 0 = ap (λ (n : ℕ). slice_index PAIRS n) none ∙ sym (get_or-drop (2 * byte) PAIRS 0 0) in
    let second : slice_index PAIRS (2 * byte + 1) ≡ slice_index (drop (2 * byte) PAIRS) 1 = sym (get_or-drop (2 * byte) PAIRS 1 0) in
    (first ∙ ap (λ l. slice_index l 0) two, second ∙ ap (λ l. slice_index l 1) two)
