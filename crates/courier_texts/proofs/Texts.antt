-- Records and choices, and then all values.
use Rattle.std.proofs.Common.{◌≡◌, ℕ, ◌+◌, ◌*◌, ◌^◌, inl, inr, subst, Bool, true, false, cond, List, [], ◌∷◌, ◌++◌, codes, refl, sym, ap, ◌∙◌, append_assoc, append-nil, eq-eqb, ne_eqb}
use Rattle.std.specs.Prelude.{◌≢◌}
use Rattle.std.specs.Int.{w16, w32, cast_signed}
use Rattle.std.proofs.lemmas.List.{append_cancel_left}
use Rattle.courier_types.specs.declared.predefined.Predefined.{Predefined}
use Rattle.courier_types.specs.declared.predefined.Predefined.TheVariants.{Boolean, Cardinal, LongCardinal, Integer, LongInteger, Unspecified, Text}
use Rattle.courier_types.specs.Value.{ValueModel, ValueModels, no_values, value_and}
use Rattle.courier_types.specs.Laws.{FittingValueIsSpelled}
use Rattle.courier_types.specs.Spelling.{SpellsFields, SpellsMember, value_spelling}
use Rattle.courier_texts.specs.Named.{NamedModel, ComponentModels, no_components, component_and, VariantModels, no_variants, variant_and, shape_of, shapes_of, members_of}
use Rattle.courier_texts.specs.Printing.{boolean_text, value_text, components_text, variant_text}
use Rattle.courier_texts.specs.Laws.{is_plain_name, NamesNoVariant, IsNamed, AreComponentsNamed, AreVariantsNamed, EqualTextsAreOfEqualValues}
use Rattle.courier_types.proofs.Fitted.{long_fits}
use Rattle.courier_texts.proofs.Apart.{IsApart, Starts, split, heads, decimal_starts, signed_starts}
use Rattle.courier_texts.proofs.Alike.{Tells, known, told, small, long, word_small, long_small, tells_predefined}
use Rattle.courier_texts.proofs.Parts.{StartsPlain, in_brackets, plain_name, name_starts, listed_starts, tells_enumeration, tells_array, tells_sequence}

-- ---- records

-- the texts of components, and the bracket
abbrev all_of : List ℕ → ComponentModels → ValueModels → List ℕ → List ℕ
all_of front parts vs x = components_text front parts vs ++ 93 ∷ x

parts_known : (front : List ℕ) (parts : ComponentModels) (vs ws vs' ws' : ValueModels) (x y : List ℕ) → vs ≡ vs' → ws ≡ ws' → all_of front parts vs x ≡ all_of front parts ws y → all_of front parts vs' x ≡ all_of front parts ws' y
parts_known front parts vs ws vs' ws' x y p q e = sym (ap (λ us. all_of front parts us x) p) ∙ e ∙ ap (λ us. all_of front parts us y) q

parts_apart : (parts : ComponentModels) (vs : ValueModels) (x : List ℕ) → IsApart (all_of (codes ", ") parts vs x)
unfolding components_text value_text
parts_apart no_components vs x = refl
parts_apart (component_and name part parts) no_values x = refl
parts_apart (component_and name part parts) (value_and v vs) x = refl

-- the values of the components are told apart by their texts
abbrev TellsParts : ComponentModels → Type 0
TellsParts parts = (front : List ℕ) (vs ws : ValueModels) (a b x y : List ℕ) → SpellsFields (shapes_of parts) vs a → SpellsFields (shapes_of parts) ws b → all_of front parts vs x ≡ all_of front parts ws y → (vs ≡ ws) × (x ≡ y)

no_parts : TellsParts no_components
unfolding components_text value_text
no_parts front vs ws a b x y s t e = (s.0 ∙ sym t.0, (heads 93 93 x y (parts_known front no_components vs ws no_values no_values x y s.0 t.0 e)).1)

part_and : (front name : List ℕ) (part : NamedModel) (parts : ComponentModels) (v : ValueModel) (vs : ValueModels) (x : List ℕ)
    → all_of front (component_and name part parts) (value_and v vs) x ≡ front ++ (name ++ (codes ": " ++ (value_text part v ++ all_of (codes ", ") parts vs x)))
unfolding components_text value_text
part_and front name part parts v vs x = simp append_assoc

one_part : (name : List ℕ) (part : NamedModel) (parts : ComponentModels) → Tells part → TellsParts parts → TellsParts (component_and name part parts)
one_part name part parts one more front vs ws a b x y s t e =
    let h = parts_known front (component_and name part parts) vs ws (value_and s.0 s.1) (value_and t.0 t.1) x y s.4 t.4 e in
    let both = sym (part_and front name part parts s.0 s.1 x) ∙ h ∙ part_and front name part parts t.0 t.1 y in
    let named = append_cancel_left front _ _ both in
    let text = append_cancel_left (codes ": ") (value_text part s.0 ++ all_of (codes ", ") parts s.1 x) (value_text part t.0 ++ all_of (codes ", ") parts t.1 y) (append_cancel_left name _ _ named) in
    let p = one s.0 t.0 s.2 t.2 (all_of (codes ", ") parts s.1 x) (all_of (codes ", ") parts t.1 y) s.6 t.6 (parts_apart parts s.1 x) (parts_apart parts t.1 y) text in
    let q = more (codes ", ") s.1 t.1 s.3 t.3 x y s.7 t.7 p.1 in
    (s.4 ∙ ap (λ u. value_and u s.1) p.0 ∙ ap (value_and t.0) q.0 ∙ sym t.4, q.1)

tells_record : (parts : ComponentModels) → TellsParts parts → Tells (NamedModel.components parts)
unfolding value_text components_text
tells_record parts more v w a b x y s t ax ay e =
    let both = in_brackets (components_text [] parts s.0) (components_text [] parts t.0) x y (known (NamedModel.components parts) v w _ _ x y s.1 t.1 e) in
    told ValueModel.fields s.0 t.0 s.1 t.1 (more [] s.0 t.0 a b x y s.2 t.2 both)

-- ---- choices

variant_here : (name : List ℕ) (d : ℕ) (part : NamedModel) (parts : VariantModels) (chosen : ℕ) (v : ValueModel) → chosen ≡ d → variant_text (variant_and name d part parts) chosen v ≡ name ++ codes " " ++ value_text part v
unfolding variant_text value_text
variant_here name d part parts chosen v h = ap (λ (b : Bool). cond b (name ++ codes " " ++ value_text part v) (variant_text parts chosen v)) (eq-eqb d chosen (sym h))

variant_past : (name : List ℕ) (d : ℕ) (part : NamedModel) (parts : VariantModels) (chosen : ℕ) (v : ValueModel) → (chosen ≢ d) → variant_text (variant_and name d part parts) chosen v ≡ variant_text parts chosen v
unfolding variant_text value_text
variant_past name d part parts chosen v h = ap (λ (b : Bool). cond b (name ++ codes " " ++ value_text part v) (variant_text parts chosen v)) (ne_eqb d chosen (λ e. h (sym e)))

named_here : (name : List ℕ) (d : ℕ) (part : NamedModel) (parts : VariantModels) (chosen : ℕ) (v : ValueModel) (x : List ℕ) → chosen ≡ d → variant_text (variant_and name d part parts) chosen v ++ x ≡ name ++ 32 ∷ (value_text part v ++ x)
named_here name d part parts chosen v x h =
    let here : variant_text (variant_and name d part parts) chosen v ++ x ≡ (name ++ codes " " ++ value_text part v) ++ x = ap (λ (l : List ℕ). l ++ x) (variant_here name d part parts chosen v h) in
    let rest : (name ++ codes " " ++ value_text part v) ++ x ≡ name ++ 32 ∷ (value_text part v ++ x) = simp append_assoc in
    here ∙ rest

-- a candidate that is chosen has a name of its own, behind one of this name
abbrev IsOther : List ℕ → List ℕ → List ℕ → Type 0
IsOther name text x = (other : List ℕ) × (tail : List ℕ) × (is_plain_name other ≡ true) × (name ≢ other) × (text ++ x ≡ other ++ 32 ∷ tail)

other_variant : (parts : VariantModels) (name : List ℕ) (d : ℕ) (v : ValueModel) (a x : List ℕ) → AreVariantsNamed parts → NamesNoVariant name parts → SpellsMember (members_of parts) d v a → IsOther name (variant_text parts d v) x
other_variant no_variants name d v a x h differs s = absurd s
other_variant (variant_and other e part parts) name d v a x h differs (inl s) =
    (other, value_text part v ++ x, h.0, differs.0, named_here other e part parts d v x s.0)
other_variant (variant_and other e part parts) name d v a x h differs (inr s) =
    let o = other_variant parts name d v a x h.3 differs.1 s.1 in
    (o.0, o.1, o.2, o.3, ap (λ (l : List ℕ). l ++ x) (variant_past other e part parts d v s.0) ∙ o.4)

-- designators with their values are told apart by their texts
abbrev TellsVariants : VariantModels → Type 0
TellsVariants parts = (d f : ℕ) (v w : ValueModel) (a b x y : List ℕ) → SpellsMember (members_of parts) d v a → SpellsMember (members_of parts) f w b → IsApart x → IsApart y
    → variant_text parts d v ++ x ≡ variant_text parts f w ++ y → (d ≡ f) × (v ≡ w) × (x ≡ y)

names_differ : (name other tail tail' : List ℕ) → is_plain_name name ≡ true → is_plain_name other ≡ true → name ≢ other → name ++ 32 ∷ tail ≡ other ++ 32 ∷ tail' → ⊥
names_differ name other tail tail' p q differs e = differs (split name other (32 ∷ tail) (32 ∷ tail') (plain_name name p) (plain_name other q) refl refl e).0

one_variant : (name : List ℕ) (g : ℕ) (part : NamedModel) (parts : VariantModels) → is_plain_name name ≡ true → NamesNoVariant name parts → AreVariantsNamed parts → Tells part → TellsVariants parts → TellsVariants (variant_and name g part parts)
one_variant name g part parts plain differs named one more d f v w a b x y (inl s) (inl t) ax ay e =
    let both = sym (named_here name g part parts d v x s.0) ∙ e ∙ named_here name g part parts f w y t.0 in
    let text = append_cancel_left (32 ∷ []) (value_text part v ++ x) (value_text part w ++ y) (append_cancel_left name _ _ both) in
    let p = one v w a b x y s.1 t.1 ax ay text in
    (s.0 ∙ sym t.0, p.0, p.1)
one_variant name g part parts plain differs named one more d f v w a b x y (inl s) (inr t) ax ay e =
    let o = other_variant parts name f w b y named differs t.1 in
    absurd (names_differ name o.0 (value_text part v ++ x) o.1 plain o.2 o.3
    (sym (named_here name g part parts d v x s.0) ∙ e ∙ ap (λ (l : List ℕ). l ++ y) (variant_past name g part parts f w t.0) ∙ o.4))
one_variant name g part parts plain differs named one more d f v w a b x y (inr s) (inl t) ax ay e =
    let o = other_variant parts name d v a x named differs s.1 in
    absurd (names_differ name o.0 (value_text part w ++ y) o.1 plain o.2 o.3
    (sym (named_here name g part parts f w y t.0) ∙ sym e ∙ ap (λ (l : List ℕ). l ++ x) (variant_past name g part parts d v s.0) ∙ o.4))
one_variant name g part parts plain differs named one more d f v w a b x y (inr s) (inr t) ax ay e =
    more d f v w a b x y s.1 t.1 ax ay
    (sym (ap (λ (l : List ℕ). l ++ x) (variant_past name g part parts d v s.0)) ∙ e ∙ ap (λ (l : List ℕ). l ++ y) (variant_past name g part parts f w t.0))

tells_choice : (parts : VariantModels) → TellsVariants parts → Tells (NamedModel.choice parts)
unfolding value_text variant_text
tells_choice parts more v w a b x y s t ax ay e =
    let p = more s.0 t.0 s.1 t.1 s.2 t.2 x y s.6 t.6 ax ay (known (NamedModel.choice parts) v w _ _ x y s.4 t.4 e) in
    (s.4 ∙ ap (λ d. ValueModel.choice d s.1) p.0 ∙ ap (ValueModel.choice t.0) p.1 ∙ sym t.4, p.2)

-- ---- all types

starts_known : (type : NamedModel) (v v' : ValueModel) (more : List ℕ) → v ≡ v' → Starts (value_text type v' ++ more) → Starts (value_text type v ++ more)
starts_known type v v' more e h = let P : ValueModel → Type 0 = λ u. Starts (value_text type u ++ more) in subst P (sym e) h

starts_boolean : (b : Bool) (more : List ℕ) → Starts (boolean_text b ++ more)
starts_boolean true more = refl
starts_boolean false more = refl

starts_choice : (parts : VariantModels) (d : ℕ) (v : ValueModel) (a more : List ℕ) → AreVariantsNamed parts → SpellsMember (members_of parts) d v a → Starts (variant_text parts d v ++ more)
starts_choice no_variants d v a more h s = absurd s
starts_choice (variant_and name e part parts) d v a more h (inl s) =
    let P : List ℕ → Type 0 = Starts in
    subst P (sym (named_here name e part parts d v more s.0)) (name_starts name (32 ∷ (value_text part v ++ more)) h.0)
starts_choice (variant_and name e part parts) d v a more h (inr s) =
    let P : List ℕ → Type 0 = Starts in
    subst P (sym (ap (λ (l : List ℕ). l ++ more) (variant_past name e part parts d v s.0))) (starts_choice parts d v a more h.3 s.1)

starts_predefined : (type : Predefined) → StartsPlain (NamedModel.predefined type)
unfolding value_text
starts_predefined Boolean v a more s = starts_known (NamedModel.predefined Boolean) v _ more s.1 (starts_boolean s.0 more)
starts_predefined Cardinal v a more s = starts_known (NamedModel.predefined Cardinal) v _ more s.2 (decimal_starts s.0 more (small s.0 s.1))
starts_predefined LongCardinal v a more s =
    starts_known (NamedModel.predefined LongCardinal) v _ more s.4 (decimal_starts (s.0 * 2 ^ 16 + s.1) more (long (s.0 * 2 ^ 16 + s.1) (long_fits s.0 s.1 s.2 s.3)))
starts_predefined Integer v a more s = starts_known (NamedModel.predefined Integer) v _ more s.2 (signed_starts (cast_signed w16 s.0) more (word_small s.0 s.1))
starts_predefined LongInteger v a more s =
    starts_known (NamedModel.predefined LongInteger) v _ more s.4 (signed_starts (cast_signed w32 (s.0 * 2 ^ 16 + s.1)) more (long_small (s.0 * 2 ^ 16 + s.1) (long_fits s.0 s.1 s.2 s.3)))
starts_predefined Unspecified v a more s = starts_known (NamedModel.predefined Unspecified) v _ more s.2 (decimal_starts s.0 more (small s.0 s.1))
starts_predefined Text v a more s = starts_known (NamedModel.predefined Text) v _ more s.3 refl

starts : (type : NamedModel) → IsNamed type → StartsPlain type
unfolding value_text
starts (NamedModel.predefined type) h v a more s = starts_predefined type v a more s
starts (NamedModel.enumeration members) h v a more s = starts_known (NamedModel.enumeration members) v _ more s.3 (listed_starts members s.0 more h s.2)
starts (NamedModel.array n element) h v a more s = starts_known (NamedModel.array n element) v _ more s.1 refl
starts (NamedModel.sequence most element) h v a more s = starts_known (NamedModel.sequence most element) v _ more s.5 refl
starts (NamedModel.components parts) h v a more s = starts_known (NamedModel.components parts) v _ more s.1 refl
starts (NamedModel.choice parts) h v a more s = starts_known (NamedModel.choice parts) v _ more s.4 (starts_choice parts s.0 s.1 s.2 more h s.6)

no_variants_told : TellsVariants no_variants
no_variants_told d f v w a b x y s t ax ay e = absurd s

mutual
  tells : (type : NamedModel) → IsNamed type → Tells type
  tells (NamedModel.predefined type) h = tells_predefined type
  tells (NamedModel.enumeration members) h = tells_enumeration members h
  tells (NamedModel.array n element) h = tells_array n element (tells element h) (starts element h)
  tells (NamedModel.sequence most element) h = tells_sequence most element (tells element h) (starts element h)
  tells (NamedModel.components parts) h = tells_record parts (tells_parts parts h)
  tells (NamedModel.choice parts) h = tells_choice parts (tells_variants parts h)

  tells_parts : (parts : ComponentModels) → AreComponentsNamed parts → TellsParts parts
  tells_parts no_components h = no_parts
  tells_parts (component_and name part parts) h = one_part name part parts (tells part h.0) (tells_parts parts h.1)

  tells_variants : (parts : VariantModels) → AreVariantsNamed parts → TellsVariants parts
  tells_variants no_variants h = no_variants_told
  tells_variants (variant_and name g part parts) h = one_variant name g part parts h.0 h.1 h.3 (tells part h.2) (tells_variants parts h.3)

pub equal_texts : FittingValueIsSpelled → EqualTextsAreOfEqualValues
equal_texts spelled type v w h f g e =
    let both : value_text type v ++ [] ≡ value_text type w ++ [] = append-nil (value_text type v) ∙ e ∙ sym (append-nil (value_text type w)) in
    (tells type h v w (value_spelling v) (value_spelling w) [] [] (spelled.spells (shape_of type) v f) (spelled.spells (shape_of type) w g) tt tt both).0
