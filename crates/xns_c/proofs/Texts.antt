-- Texts that are read.
use Rattle.std.proofs.Common.{◌≡◌, ◌<◌, ◌≤◌, ℕ, zero, suc, ◌+◌, ◌-◌, ◌*◌, ◌/◌, ◌%◌, List, [], ◌∷◌, ◌++◌, length, drop, take, Result, Ok, Err, slice_index_or, slice_set, ap, sym, subst, refl, arith, append-nil, take_all, length-drop, length-take-le, ◌∙◌}
use Rattle.courier_types.specs.Front.{value_of, placed}
use Rattle.courier_types.specs.Reading.{◌>>=◌, over, reading, front_bytes, front_text}
use Rattle.courier_types.specs.Shape.{ShapeModel}
use Rattle.courier_types.specs.Source.{bytes_of}
use Rattle.courier_types.specs.Value.{ValueModel}
use Rattle.courier_types.specs.declared.read_fault.ReadFault.{ReadFault}
use Rattle.courier_types.specs.declared.read_fault.Reason.TheVariants.{Truncated}
use Rattle.courier_messages.proofs.Cuts.{bytes_length}
use Rattle.courier_types.proofs.Taken.{bytes_read, bytes_short}
use Rattle.xns_c.proofs.Spelled.{set_last}

-- an even number of bytes

pairs_of : (n k : ℕ) (ws : List ℕ) → n ≡ 2 * k → k ≤ length ws → front_bytes n ws ≡ Ok (bytes_of (take k ws), drop k ws)
unfolding front_bytes
pairs_of zero zero ws e le = refl
pairs_of zero (suc k) ws e le = absurd (omega (arith, e))
pairs_of (suc n) zero ws e le = absurd (omega (arith, e))
pairs_of (suc zero) (suc k) ws e le = absurd (omega (arith, e))
pairs_of (suc (suc n)) (suc k) [] e le = absurd (omega (arith, le))
pairs_of (suc (suc n)) (suc k) (w ∷ ws) e le = ap (λ r. r >>= λ rest. Ok (w / 256 ∷ w % 256 ∷ rest.0, rest.1)) (pairs_of n k ws (omega (arith, e)) (omega (arith, le)))

-- an odd number of bytes

odd_of : (n k : ℕ) (ws : List ℕ) → n ≡ 2 * k + 1 → suc k ≤ length ws → front_bytes n ws ≡ Ok (bytes_of (take k ws) ++ slice_index_or (drop k ws) 0 0 / 256 ∷ [], drop (suc k) ws)
unfolding front_bytes
odd_of zero k ws e le = absurd (omega (arith, e))
odd_of (suc zero) zero [] e le = absurd (omega (arith, le))
odd_of (suc zero) zero (w ∷ ws) e le = refl
odd_of (suc zero) (suc k) ws e le = absurd (omega (arith, e))
odd_of (suc (suc n)) zero ws e le = absurd (omega (arith, e))
odd_of (suc (suc n)) (suc k) [] e le = absurd (omega (arith, le))
odd_of (suc (suc n)) (suc k) (w ∷ ws) e le = ap (λ r. r >>= λ rest. Ok (w / 256 ∷ w % 256 ∷ rest.0, rest.1)) (odd_of n k ws (omega (arith, e)) (omega (arith, le)))

-- all bytes are put

pub even_put : (words bytes rest : List ℕ) (n place : ℕ) → n / 2 + n % 2 ≤ length words → length bytes ≡ n → length rest < 1
    → take place bytes ++ bytes_of rest ≡ bytes_of (take (length bytes / 2) words) → place + 2 * length rest ≡ 2 * (length bytes / 2) → length bytes ≤ place
    → front_bytes n words ≡ Ok (bytes, drop (n / 2 + n % 2) words)
even_put words bytes (b ∷ rest) n place enough same none put count full = absurd (omega (arith, none))
even_put words bytes [] n place enough same none put count full =
    let half : length bytes / 2 ≡ n / 2 + n % 2 = omega (arith, same, count, full) in
    let all : bytes_of (take (n / 2 + n % 2) words) ≡ bytes = ap (λ (k : ℕ). bytes_of (take k words)) (sym half) ∙ sym put ∙ append-nil (take place bytes) ∙ take_all place bytes full in
    pairs_of n (n / 2 + n % 2) words (omega (arith, same, count, full)) enough ∙ ap (λ (l : List ℕ). Ok (l, drop (n / 2 + n % 2) words)) all

pub odd_put : (words bytes rest last : List ℕ) (n place : ℕ) → n / 2 + n % 2 ≤ length words → length bytes ≡ n → length rest < 1
    → take place bytes ++ bytes_of rest ≡ bytes_of (take (length bytes / 2) words) → place + 2 * length rest ≡ 2 * (length bytes / 2) → place < length bytes → last ≡ drop (n / 2) words
    → front_bytes n words ≡ Ok (slice_set bytes place (slice_index_or last 0 0 / 256), drop (n / 2 + n % 2) words)
odd_put words bytes (b ∷ rest) last n place enough same none put count more is = absurd (omega (arith, none))
odd_put words bytes [] last n place enough same none put count more is =
    let half : length bytes / 2 ≡ n / 2 = omega (arith, same) in
    let next : n / 2 + n % 2 ≡ suc (n / 2) = omega (arith, same, count, more) in
    let pairs : bytes_of (take (n / 2) words) ≡ take place bytes = ap (λ (k : ℕ). bytes_of (take k words)) (sym half) ∙ sym put ∙ append-nil (take place bytes) in
    let byte = slice_index_or (drop (n / 2) words) 0 0 / 256 in
    odd_of n (n / 2) words (omega (arith, same, count, more)) (omega (arith, enough, next))
    ∙ ap (λ (l : List ℕ). Ok (l ++ byte ∷ [], drop (suc (n / 2)) words)) pairs
    ∙ ap (λ (l : List ℕ). Ok (l, drop (suc (n / 2)) words)) (sym (set_last bytes place byte (omega (arith, same, count, more))))
    ∙ ap (λ (k : ℕ). Ok (slice_set bytes place byte, drop k words)) (sym next)
    ∙ ap (λ (l : List ℕ). Ok (slice_set bytes place (slice_index_or l 0 0 / 256), drop (n / 2 + n % 2) words)) (sym is)

-- where a text's words are all there

-- so many bytes, where the words are that many
many_bytes : (n : ℕ) (ws : List ℕ) → n / 2 + n % 2 ≤ length ws → length (take n (bytes_of (take (n / 2 + n % 2) ws))) ≡ n
many_bytes n ws le =
    let words : length (take (n / 2 + n % 2) ws) ≡ n / 2 + n % 2 = length-take-le (n / 2 + n % 2) ws le in
    length-take-le n (bytes_of (take (n / 2 + n % 2) ws)) (omega (arith, words, bytes_length (take (n / 2 + n % 2) ws)))

-- the bytes that so many words spell, where they are all there
bytes_there : (n : ℕ) (ws : List ℕ) → n / 2 + n % 2 ≤ length ws → (bytes : List ℕ) × (front_bytes n ws ≡ Ok (bytes, drop (n / 2 + n % 2) ws)) × (length bytes ≡ n)
bytes_there n ws le =
    let bytes : List ℕ = take n (bytes_of (take (n / 2 + n % 2) ws)) in
    (bytes, bytes_read n (n / 2 + n % 2) ws bytes (drop (n / 2 + n % 2) ws) refl le refl refl, many_bytes n ws le)

same_ok : {A E : Type 0} (r : Result A E) (x y : A) → r ≡ Ok x → r ≡ Ok y → x ≡ y
same_ok r x y d e = cc

same_text : (bytes others : List ℕ) → ValueModel.text bytes ≡ ValueModel.text others → bytes ≡ others
same_text bytes others e = cc

no_fault : {A E : Type 0} (r : Result A E) (x : A) (d : E) → r ≡ Ok x → r ≡ Err d → ⊥
no_fault r x d e f = cc

all_others : (words : List ℕ) → take (suc (length words) - 1) words ≡ words
all_others words = take_all (suc (length words) - 1) words (omega arith)

-- the value at a text whose words are all there
text_value : (w : ℕ) (ws bytes : List ℕ) (count : ℕ) → count ≡ w → count / 2 + count % 2 ≤ length ws → front_bytes count ws ≡ Ok (bytes, drop (count / 2 + count % 2) ws)
    → value_of ShapeModel.text (w ∷ ws) ≡ Ok (ValueModel.text bytes, 1 + (count / 2 + count % 2))
unfolding value_of reading front_text
text_value w ws bytes count first enough e =
    let size : suc (length ws) - length (drop (count / 2 + count % 2) ws) ≡ 1 + (count / 2 + count % 2) = let h = length-drop (count / 2 + count % 2) ws in omega (arith, h, enough) in
    ap (λ (n : ℕ). placed (w ∷ ws) (over ValueModel.text (front_bytes n ws))) (sym first)
    ∙ ap (λ r. placed (w ∷ ws) (over ValueModel.text r)) e
    ∙ ap (λ (n : ℕ). Ok (ValueModel.text bytes, n)) size

-- a text that lies whole in the words is the one that was read, and it is no fault
pub text_told : (found words : List ℕ) (count : ℕ) → found ≡ words → 1 ≤ length found → count ≡ slice_index_or found 0 0 → count / 2 + count % 2 ≤ length (take (length found - 1) (drop 1 found))
    → (bytes : List ℕ) (taken : ℕ) → value_of ShapeModel.text words ≡ Ok (ValueModel.text bytes, taken)
    → (length bytes ≡ count) × (taken ≡ 1 + (count / 2 + count % 2)) × (front_bytes count (take (length found - 1) (drop 1 found)) ≡ Ok (bytes, drop (count / 2 + count % 2) (take (length found - 1) (drop 1 found))))
text_told [] words count same one first enough bytes taken e = absurd (omega (arith, one))
text_told (w ∷ ws) words count same one first enough bytes taken e =
    let room : count / 2 + count % 2 ≤ length ws = subst (λ (l : List ℕ). count / 2 + count % 2 ≤ length l) (all_others ws) enough in
    let r = bytes_there count ws room in
    let known : (ValueModel.text r.0, 1 + (count / 2 + count % 2)) ≡ (ValueModel.text bytes, taken) =
    same_ok (value_of ShapeModel.text (w ∷ ws)) (ValueModel.text r.0, 1 + (count / 2 + count % 2)) (ValueModel.text bytes, taken) (text_value w ws r.0 count first room r.1) (ap (value_of ShapeModel.text) same ∙ e) in
    let is : r.0 ≡ bytes = same_text r.0 bytes (ap (λ (p : ValueModel × ℕ). p.0) known) in (
      ap length (sym is) ∙ r.2,
      sym (ap (λ (p : ValueModel × ℕ). p.1) known),
      subst (λ (l : List ℕ). front_bytes count l ≡ Ok (bytes, drop (count / 2 + count % 2) l)) (sym (all_others ws)) (r.1 ∙ ap (λ (l : List ℕ). Ok (l, drop (count / 2 + count % 2) ws)) is),
    )

pub text_sound : (found words : List ℕ) (count : ℕ) → found ≡ words → 1 ≤ length found → count ≡ slice_index_or found 0 0 → count / 2 + count % 2 ≤ length (take (length found - 1) (drop 1 found))
    → (fault : ReadFault) → value_of ShapeModel.text words ≡ Err fault → ⊥
text_sound [] words count same one first enough fault e = absurd (omega (arith, one))
text_sound (w ∷ ws) words count same one first enough fault e =
    let room : count / 2 + count % 2 ≤ length ws = subst (λ (l : List ℕ). count / 2 + count % 2 ≤ length l) (all_others ws) enough in
    let r = bytes_there count ws room in
    no_fault (value_of ShapeModel.text (w ∷ ws)) (ValueModel.text r.0, 1 + (count / 2 + count % 2)) fault (text_value w ws r.0 count first room r.1) (ap (value_of ShapeModel.text) same ∙ e)

-- a text whose words end too soon
pub text_cut : (found words : List ℕ) (count : ℕ) → found ≡ words → 1 ≤ length found → count ≡ slice_index_or found 0 0 → length (take (length found - 1) (drop 1 found)) < count / 2 + count % 2
    → (x : ValueModel × ℕ) → value_of ShapeModel.text words ≡ Ok x → ⊥
unfolding value_of reading front_text
text_cut [] words count same one first few x e = absurd (omega (arith, one))
text_cut (w ∷ ws) words count same one first few x e =
    let fewer : length ws < count / 2 + count % 2 = subst (λ (l : List ℕ). length l < count / 2 + count % 2) (all_others ws) few in
    no_fault (value_of ShapeModel.text (w ∷ ws)) x (record { place = length (w ∷ ws) - 0; reason = Truncated }) (ap (value_of ShapeModel.text) same ∙ e)
    (ap (λ (n : ℕ). placed (w ∷ ws) (over ValueModel.text (front_bytes n ws))) (sym first) ∙ ap (λ r. placed (w ∷ ws) (over ValueModel.text r)) (bytes_short count ws fewer))

pub text_none : (found words : List ℕ) → found ≡ words → length found < 1 → (x : ValueModel × ℕ) → value_of ShapeModel.text words ≡ Ok x → ⊥
unfolding value_of reading front_text
text_none [] words same none x e = no_fault (value_of ShapeModel.text []) x (record { place = 0; reason = Truncated }) (ap (value_of ShapeModel.text) same ∙ e) refl
text_none (w ∷ ws) words same none x e = absurd (omega (arith, none))

-- bytes that were filled, and those that are read
pub same_filled : (others text filled bytes : List ℕ) (count : ℕ) → count ≤ length text
    → front_bytes (length (take count text)) others ≡ Ok (filled, drop (length (take count text) / 2 + length (take count text) % 2) others)
    → front_bytes count others ≡ Ok (bytes, drop (count / 2 + count % 2) others)
    → filled ≡ bytes
same_filled others text filled bytes count room put read =
    let all : front_bytes count others ≡ Ok (filled, drop (count / 2 + count % 2) others) =
    subst (λ (n : ℕ). front_bytes n others ≡ Ok (filled, drop (n / 2 + n % 2) others)) (length-take-le count text room) put in
    ap (λ (p : List ℕ × List ℕ). p.0) (same_ok (front_bytes count others) (filled, drop (count / 2 + count % 2) others) (bytes, drop (count / 2 + count % 2) others) all read)
