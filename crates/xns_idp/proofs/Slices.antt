-- Parts of a list from place to place, and the fields that are read there.
use Rattle.std.proofs.Common.{◌≡◌, ℕ, suc, ◌+◌, ◌-◌, ◌<◌, ◌≤◌, List, [], ◌∷◌, ◌++◌, length, get_or, take, drop, refl, sym, ap, ◌∙◌, arith, add-one}
use Rattle.std.specs.Prelude.{slice_range}
use Rattle.std.specs.Int.{w16, w32, to_be_bytes}
use Rattle.std.proofs.Math.Seq.{take-add, drop-cons}
use Rattle.std.proofs.lemmas.List.{drop-drop}
use Rattle.xns_idp.proofs.Numbers.{two_bytes, four_bytes}
use Rattle.xns_idp.specs.Packet.{AreBytes, address_bytes}
use Rattle.xns_idp.specs.Reading.{word_at, long_at, address_at}

-- one part and the next
pub slice-join : (b : List ℕ) (i j k : ℕ) → i ≤ j → j ≤ k → slice_range b i j ++ slice_range b j k ≡ slice_range b i k
slice-join b i j k ij jk =
    let start : j ≡ i + (j - i) = omega arith in
    let second : drop j b ≡ drop (j - i) (drop i b) = ap (λ (n : ℕ). drop n b) start ∙ sym (drop-drop (j - i) i b) in
    let len : (j - i) + (k - j) ≡ k - i = omega arith in
    ap (λ (xs : List ℕ). slice_range b i j ++ take (k - j) xs) second ∙ sym (take-add (j - i) (k - j) (drop i b)) ∙ ap (λ (n : ℕ). take n (drop i b)) len

pub slice-nil : (b : List ℕ) (i j : ℕ) → j ≡ i → slice_range b i j ≡ []
slice-nil b i j e = let n : j - i ≡ 0 = omega (arith, e) in ap (λ (n : ℕ). take n (drop i b)) n

-- the first byte of a part
pub slice-cons : (b : List ℕ) (i j : ℕ) → i < j → i < length b → slice_range b i j ≡ get_or b i 0 ∷ slice_range b (suc i) j
slice-cons b i j ij ib =
    let n : j - i ≡ suc (j - suc i) = omega arith in
    ap (λ (xs : List ℕ). take (j - i) xs) (drop-cons b i 0 ib) ∙ ap (λ (n : ℕ). take n (get_or b i 0 ∷ drop (suc i) b)) n

pub slice_two : (b : List ℕ) (i j : ℕ) → j ≡ i + 2 → j ≤ length b → slice_range b i j ≡ get_or b i 0 ∷ get_or b (i + 1) 0 ∷ []
slice_two b i j e h =
    slice-cons b i j (omega (arith, e)) (omega (arith, e)) ∙ ap (λ (xs : List ℕ). get_or b i 0 ∷ xs)
    (slice-cons b (suc i) j (omega (arith, e)) (omega (arith, e)) ∙ ap (λ (xs : List ℕ). get_or b (suc i) 0 ∷ xs) (slice-nil b (suc (suc i)) j (omega (arith, e))))
    ∙ ap (λ (n : ℕ). get_or b i 0 ∷ get_or b n 0 ∷ []) (sym (add-one i))

pub byte_below : (b : List ℕ) (i : ℕ) → AreBytes b → i < length b → get_or b i 0 < 256
byte_below b i fits h = fits i 0 h

pub word_below : (b : List ℕ) (i : ℕ) → AreBytes b → i + 1 < length b → word_at b i < 65536
word_below b i fits h = omega (arith, fits i 0 (omega arith), fits (i + 1) 0 h)

pub word_slice : (b : List ℕ) (i j : ℕ) → AreBytes b → j ≡ i + 2 → j ≤ length b → to_be_bytes w16 (word_at b i) ≡ slice_range b i j
word_slice b i j fits e h =
    two_bytes (get_or b i 0) (get_or b (i + 1) 0) (fits i 0 (omega (arith, e))) (fits (i + 1) 0 (omega (arith, e))) ∙ sym (slice_two b i j e h)

pub long_slice : (b : List ℕ) (i k : ℕ) → AreBytes b → k ≡ i + 4 → k ≤ length b → to_be_bytes w32 (long_at b i) ≡ slice_range b i k
long_slice b i k fits e h =
    four_bytes (word_at b i) (word_at b (i + 2)) (word_below b i fits (omega (arith, e))) (word_below b (i + 2) fits (omega (arith, e)))
    ∙ ap (λ (xs : List ℕ). xs ++ to_be_bytes w16 (word_at b (i + 2))) (word_slice b i (i + 2) fits refl (omega (arith, e)))
    ∙ ap (λ (xs : List ℕ). slice_range b i (i + 2) ++ xs) (word_slice b (i + 2) k fits (omega (arith, e)) h)
    ∙ slice-join b i (i + 2) k (omega arith) (omega (arith, e))

pub address_slice : (b : List ℕ) (i k : ℕ) → AreBytes b → k ≡ i + 12 → k ≤ length b → address_bytes (address_at b i) ≡ slice_range b i k
unfolding address_at
address_slice b i k fits e h =
    ap (λ (xs : List ℕ). xs ++ slice_range b (i + 4) (i + 10) ++ to_be_bytes w16 (word_at b (i + 10))) (long_slice b i (i + 4) fits refl (omega (arith, e)))
    ∙ ap (λ (xs : List ℕ). xs ++ to_be_bytes w16 (word_at b (i + 10))) (slice-join b i (i + 4) (i + 10) (omega arith) (omega arith))
    ∙ ap (λ (xs : List ℕ). slice_range b i (i + 10) ++ xs) (word_slice b (i + 10) k fits (omega (arith, e)) h)
    ∙ slice-join b i (i + 10) k (omega arith) (omega (arith, e))
