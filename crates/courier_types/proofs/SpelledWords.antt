-- What spells a value is words.
use Rattle.std.proofs.Common.{◌≡◌, ℕ, zero, suc, ◌+◌, ◌*◌, ◌^◌, ◌<◌, Bool, true, false, List, [], ◌∷◌, length, sym, subst, arith, inl, inr}
use Rattle.courier_types.specs.Shape.{ShapeModel, ShapeModels, no_shapes, shape_and, MemberModels, no_members, member_and}
use Rattle.courier_types.specs.Value.{ValueModel, ValueModels}
use Rattle.courier_types.specs.Spelling.{AreWords, bit, SpellsBytes, SpellsValue, SpellsThen, SpellsTimes, SpellsFields, SpellsMember}
use Rattle.courier_types.proofs.Words.{none_below, cons_below, append_below}

-- the words are these ones
are : (v w : List ℕ) → w ≡ v → AreWords v → AreWords w
are v w e h = subst AreWords (sym e) h

one_word : (n : ℕ) (w : List ℕ) → n < 2 ^ 16 → w ≡ n ∷ [] → AreWords w
one_word n w h e = are (n ∷ []) w e (cons_below (2 ^ 16) n [] h (none_below (2 ^ 16)))

long_words : (high low : ℕ) (w : List ℕ) → high < 2 ^ 16 → low < 2 ^ 16 → w ≡ high ∷ low ∷ [] → AreWords w
long_words high low w h l e = are (high ∷ low ∷ []) w e (cons_below (2 ^ 16) high (low ∷ []) h (cons_below (2 ^ 16) low [] l (none_below (2 ^ 16))))

bit_word : (b : Bool) → bit b < 2 ^ 16
bit_word false = omega arith
bit_word true = omega arith

bytes_words : (bytes w : List ℕ) → SpellsBytes bytes w → AreWords w
bytes_words [] w s = are [] w s (none_below (2 ^ 16))
bytes_words (b ∷ []) w s = one_word (b * 256 + s.0) w (omega (arith, s.1, s.2)) s.3
bytes_words (b ∷ c ∷ bytes) w s = are ((b * 256 + c) ∷ s.0) w s.3 (cons_below (2 ^ 16) (b * 256 + c) s.0 (omega (arith, s.1, s.2)) (bytes_words bytes s.0 s.4))

then_words : (spells : ValueModel → List ℕ → Type 0) (more_spell : ValueModels → List ℕ → Type 0) → ((v : ValueModel) (w : List ℕ) → spells v w → AreWords w) → ((vs : ValueModels) (w : List ℕ) → more_spell vs w → AreWords w)
    → (vs : ValueModels) (w : List ℕ) → SpellsThen spells more_spell vs w → AreWords w
then_words spells more_spell h k vs w s = subst AreWords (sym s.5) (append_below (2 ^ 16) s.2 s.3 (h s.0 s.2 s.6) (k s.1 s.3 s.7))

times_words : (spells : ValueModel → List ℕ → Type 0) → ((v : ValueModel) (w : List ℕ) → spells v w → AreWords w) → (n : ℕ) (vs : ValueModels) (w : List ℕ) → SpellsTimes spells n vs w → AreWords w
times_words spells h zero vs w s = are [] w s.1 (none_below (2 ^ 16))
times_words spells h (suc n) vs w s = then_words spells (SpellsTimes spells n) h (λ xs a k. times_words spells h n xs a k) vs w s

mutual
  pub spelled_words : (shape : ShapeModel) (v : ValueModel) (w : List ℕ) → SpellsValue shape v w → AreWords w
  spelled_words ShapeModel.boolean v w s = one_word (bit s.0) w (bit_word s.0) s.2
  spelled_words ShapeModel.cardinal v w s = one_word s.0 w s.1 s.3
  spelled_words ShapeModel.long_cardinal v w s = long_words s.0 s.1 w s.2 s.3 s.5
  spelled_words ShapeModel.integer v w s = one_word s.0 w s.1 s.3
  spelled_words ShapeModel.long_integer v w s = long_words s.0 s.1 w s.2 s.3 s.5
  spelled_words ShapeModel.unspecified v w s = one_word s.0 w s.1 s.3
  spelled_words ShapeModel.text v w s = are (length s.0 ∷ s.1) w s.4 (cons_below (2 ^ 16) (length s.0) s.1 s.2 (bytes_words s.0 s.1 s.5))
  spelled_words (ShapeModel.enumeration listed) v w s = one_word s.0 w s.1 s.4
  spelled_words (ShapeModel.array n shape) v w s = times_words (SpellsValue shape) (λ x a h. spelled_words shape x a h) n s.0 w s.2
  spelled_words (ShapeModel.sequence most shape) v w s = are (s.0 ∷ s.2) w s.6 (cons_below (2 ^ 16) s.0 s.2 s.3 (times_words (SpellsValue shape) (λ x a h. spelled_words shape x a h) s.0 s.1 s.2 s.7))
  spelled_words (ShapeModel.fields shapes) v w s = fields_words shapes s.0 w s.2
  spelled_words (ShapeModel.choice members) v w s = are (s.0 ∷ s.2) w s.5 (cons_below (2 ^ 16) s.0 s.2 s.3 (member_words members s.0 s.1 s.2 s.6))

  fields_words : (shapes : ShapeModels) (vs : ValueModels) (w : List ℕ) → SpellsFields shapes vs w → AreWords w
  fields_words no_shapes vs w s = are [] w s.1 (none_below (2 ^ 16))
  fields_words (shape_and shape shapes) vs w s = then_words (SpellsValue shape) (SpellsFields shapes) (λ x a h. spelled_words shape x a h) (λ xs a h. fields_words shapes xs a h) vs w s

  member_words : (members : MemberModels) (d : ℕ) (v : ValueModel) (w : List ℕ) → SpellsMember members d v w → AreWords w
  member_words no_members d v w s = absurd s
  member_words (member_and e shape members) d v w s =
      elim s [
        | inl h ↦ spelled_words shape v w h.1
        | inr h ↦ member_words members d v w h.1
      ]
