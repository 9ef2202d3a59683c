-- Values without parts: equal texts are of equal values, and what stands behind the texts is equal too.
use Rattle.std.proofs.Common.{◌≡◌, ℕ, ◌+◌, ◌*◌, ◌^◌, ◌<◌, Bool, true, false, List, [], ◌∷◌, ◌++◌, codes, refl, sym, ap, ◌∙◌, append_assoc, arith, Fits as NatFits, pos, negsuc}
use Rattle.std.specs.Prelude.{ℤ, FitsSigned}
use Rattle.std.specs.Int.{w16, w32, cast_signed}
use Rattle.std.specs.Int.Signed.{mag}
use Rattle.std.specs.List.{flat_map}
use Rattle.std.proofs.Math.Facts.{sfits_to_z}
use Rattle.std.proofs.lemmas.List.{append_cancel_left}
use Rattle.courier_types.specs.declared.predefined.Predefined.{Predefined}
use Rattle.courier_types.specs.declared.predefined.Predefined.TheVariants.{Boolean, Cardinal, LongCardinal, Integer, LongInteger, Unspecified, Text}
use Rattle.courier_types.specs.Value.{ValueModel}
use Rattle.courier_types.specs.Spelling.{SpellsValue, SpellsBytes}
use Rattle.courier_types.proofs.Fitted.{long_fits}
use Rattle.courier_texts.specs.Named.{NamedModel, shape_of}
use Rattle.courier_texts.specs.Printing.{boolean_text, quoted, quoted_byte, value_text}
use Rattle.courier_texts.proofs.Apart.{IsApart, heads, numbers, integers}
use Rattle.courier_texts.proofs.Quoted.{AreSmall, strings}

-- the values of the type are told apart by their texts, whatever follows that is apart
abbrev pub Tells : NamedModel → Type 0
Tells type = (v w : ValueModel) (a b x y : List ℕ) → SpellsValue (shape_of type) v a → SpellsValue (shape_of type) w b → IsApart x → IsApart y
    → value_text type v ++ x ≡ value_text type w ++ y → (v ≡ w) × (x ≡ y)

-- the texts of two values that are known
pub known : (type : NamedModel) (v w v' w' : ValueModel) (x y : List ℕ) → v ≡ v' → w ≡ w' → value_text type v ++ x ≡ value_text type w ++ y → value_text type v' ++ x ≡ value_text type w' ++ y
known type v w v' w' x y p q e = sym (ap (λ (u : ValueModel). value_text type u ++ x) p) ∙ e ∙ ap (λ (u : ValueModel). value_text type u ++ y) q

-- ---- values without parts

small16 : (z : ℤ) → FitsSigned w16 z → mag z < 2 ^ 63
small16 (pos n) h = omega arith
small16 (negsuc n) h = omega arith

small32 : (z : ℤ) → FitsSigned w32 z → mag z < 2 ^ 63
small32 (pos n) h = omega arith
small32 (negsuc n) h = omega arith

pub word_small : (n : ℕ) → n < 2 ^ 16 → mag (cast_signed w16 n) < 2 ^ 63
word_small n h = let k : NatFits w16 n = omega arith in small16 (cast_signed w16 n) (sfits_to_z {w = w16} {n = n} k)

pub long_small : (n : ℕ) → n < 2 ^ 32 → mag (cast_signed w32 n) < 2 ^ 63
long_small n h = let k : NatFits w32 n = omega arith in small32 (cast_signed w32 n) (sfits_to_z {w = w32} {n = n} k)

-- values are told apart where what they are made of is
pub told : {X : Type 0} (f : X → ValueModel) (n m : X) {v w : ValueModel} {x y : List ℕ} → v ≡ f n → w ≡ f m → (n ≡ m) × (x ≡ y) → (v ≡ w) × (x ≡ y)
told f n m is_v is_w apart = (is_v ∙ ap f apart.0 ∙ sym is_w, apart.1)

booleans : (b c : Bool) (x y : List ℕ) → boolean_text b ++ x ≡ boolean_text c ++ y → (b ≡ c) × (x ≡ y)
booleans true true x y e = (refl, append_cancel_left (codes "TRUE") x y e)
booleans false false x y e = (refl, append_cancel_left (codes "FALSE") x y e)
booleans true false x y e = absurd (omega (arith, (heads 84 70 (82 ∷ 85 ∷ 69 ∷ x) (65 ∷ 76 ∷ 83 ∷ 69 ∷ y) e).0))
booleans false true x y e = absurd (omega (arith, (heads 70 84 (65 ∷ 76 ∷ 83 ∷ 69 ∷ x) (82 ∷ 85 ∷ 69 ∷ y) e).0))

pub small : (n : ℕ) → n < 2 ^ 16 → n < 2 ^ 64
small n h = omega arith

pub long : (n : ℕ) → n < 2 ^ 32 → n < 2 ^ 64
long n h = omega arith

small_bytes : (bytes words : List ℕ) → SpellsBytes bytes words → AreSmall bytes
small_bytes [] words s = tt
small_bytes (b ∷ []) words s = (s.1, tt)
small_bytes (b ∷ c ∷ bytes) words s = (s.1, (s.2, small_bytes bytes s.0 s.4))

-- the values of a predefined type
pub tells_predefined : (type : Predefined) → Tells (NamedModel.predefined type)
unfolding value_text
tells_predefined Boolean v w a b x y s t ax ay e =
    told ValueModel.boolean s.0 t.0 s.1 t.1 (booleans s.0 t.0 x y (known (NamedModel.predefined Boolean) v w _ _ x y s.1 t.1 e))
tells_predefined Cardinal v w a b x y s t ax ay e =
    told ValueModel.cardinal s.0 t.0 s.2 t.2 (numbers s.0 t.0 x y (small s.0 s.1) (small t.0 t.1) ax ay (known (NamedModel.predefined Cardinal) v w _ _ x y s.2 t.2 e))
tells_predefined LongCardinal v w a b x y s t ax ay e =
    let n = s.0 * 2 ^ 16 + s.1 in
    let m = t.0 * 2 ^ 16 + t.1 in
    told ValueModel.long_cardinal n m s.4 t.4 (numbers n m x y (long n (long_fits s.0 s.1 s.2 s.3)) (long m (long_fits t.0 t.1 t.2 t.3)) ax ay (known (NamedModel.predefined LongCardinal) v w _ _ x y s.4 t.4 e))
tells_predefined Integer v w a b x y s t ax ay e =
    let z = cast_signed w16 s.0 in
    let u = cast_signed w16 t.0 in
    told ValueModel.integer z u s.2 t.2 (integers z u x y (word_small s.0 s.1) (word_small t.0 t.1) ax ay (known (NamedModel.predefined Integer) v w _ _ x y s.2 t.2 e))
tells_predefined LongInteger v w a b x y s t ax ay e =
    let n = s.0 * 2 ^ 16 + s.1 in
    let m = t.0 * 2 ^ 16 + t.1 in
    let z = cast_signed w32 n in
    let u = cast_signed w32 m in
    told ValueModel.long_integer z u s.4 t.4 (integers z u x y (long_small n (long_fits s.0 s.1 s.2 s.3)) (long_small m (long_fits t.0 t.1 t.2 t.3)) ax ay (known (NamedModel.predefined LongInteger) v w _ _ x y s.4 t.4 e))
tells_predefined Unspecified v w a b x y s t ax ay e =
    told ValueModel.unspecified s.0 t.0 s.2 t.2 (numbers s.0 t.0 x y (small s.0 s.1) (small t.0 t.1) ax ay (known (NamedModel.predefined Unspecified) v w _ _ x y s.2 t.2 e))
tells_predefined Text v w a b x y s t ax ay e =
    let both : quoted s.0 ++ x ≡ quoted t.0 ++ y = known (NamedModel.predefined Text) v w _ _ x y s.3 t.3 e in
    let inside = (heads 34 34 ((flat_map quoted_byte s.0 ++ 34 ∷ []) ++ x) ((flat_map quoted_byte t.0 ++ 34 ∷ []) ++ y) both).1 in
    told ValueModel.text s.0 t.0 s.3 t.3
    (strings s.0 t.0 x y (small_bytes s.0 s.1 s.5) (small_bytes t.0 t.1 t.5)
    (sym (append_assoc (flat_map quoted_byte s.0) (34 ∷ []) x) ∙ inside ∙ append_assoc (flat_map quoted_byte t.0) (34 ∷ []) y))
