-- A value is read whole exactly where all the words spell it.
use Rattle.std.proofs.Common.{◌≡◌, ◌∙◌, ◌↔◌, ap, refl, ℕ, ◌-◌, ◌/◌, Bool, true, false, List, length, drop, eq-eqb, Result, Ok, Err, Some, None}
use Rattle.std.specs.Prelude.{◌==◌, if◌then◌else◌}
use Rattle.std.proofs.lemmas.Bool.{eqb-true}
use Rattle.std.proofs.lemmas.List.{length-drop}
use Rattle.courier_types.specs.declared.read_fault.ReadFault.{ReadFault}
use Rattle.courier_types.specs.Shape.{ShapeModel}
use Rattle.courier_types.specs.Value.{ValueModel}
use Rattle.courier_types.specs.Pieces.{words_of}
use Rattle.courier_types.specs.Spelling.{SpellsValue, AreWords}
use Rattle.courier_types.specs.Front.{value_of}
use Rattle.courier_types.specs.Laws.{WordsAreReadWhole}
use Rattle.courier_types.proofs.Joined.{words_length}
use Rattle.courier_messages.specs.Whole.{all_taken, whole}

-- how many words are left behind those that are skipped
pub left_behind : (skipped : ℕ) (bytes : List ℕ) → length (drop skipped (words_of bytes)) ≡ length bytes / 2 - skipped
left_behind skipped bytes = length-drop skipped (words_of bytes) ∙ ap (λ (n : ℕ). n - skipped) (words_length bytes)

taken_whole : (words : List ℕ) (value : ValueModel) (r : Result (ValueModel × ℕ) ReadFault) → all_taken words r ≡ Some value → r ≡ Ok (value, length words)
taken_whole words value (Err e) k = absurd cc
taken_whole words value (Ok x) k = let same = by_count (x.1 == length words) refl k in λ i. Ok (same.0 i, same.1 i) where
  by_count : (b : Bool) → (x.1 == length words) ≡ b → (if b then Some x.0 else None) ≡ Some value → (x.0 ≡ value) × (x.1 ≡ length words)
  by_count false e w = absurd cc
  by_count true e w = (cc, eqb-true x.1 (length words) e)

pub whole_is_spelled : (shape : ShapeModel) (value : ValueModel) (words : List ℕ) → WordsAreReadWhole → AreWords words → (whole shape words ≡ Some value) ↔ SpellsValue shape value words
unfolding whole
whole_is_spelled shape value words law h =
    let is = law shape value words h in (
      λ k. is.1 (taken_whole words value (value_of shape words) k),
      λ k. ap (all_taken words) (is.0 k) ∙ ap (λ (b : Bool). if b then Some value else None) (eq-eqb (length words) (length words) refl),
    )
