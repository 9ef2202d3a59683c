-- What the definitions imply: the statements of the laws, each under the name of its law.
use Rattle.std.specs.Prelude.{◌≡◌, ◌≢◌, ℕ, ◌==◌, ◌||◌, not, List, [], ◌∷◌, Bool, true, false}
use Rattle.std.specs.List.{list_all}
use Rattle.courier_types.specs.Value.{ValueModel}
use Rattle.courier_types.specs.Fits.{Fits}
use Rattle.courier_texts.specs.Named.{NamedModel, ComponentModels, no_components, component_and, VariantModels, no_variants, variant_and, shape_of}
use Rattle.courier_texts.specs.Printing.{value_text}

-- a byte that neither ends a value in a list nor stands behind the name of a candidate: no blank, comma or closing bracket
abbrev pub is_plain : ℕ → Bool
is_plain byte = not (byte == 32 || (byte == 44 || byte == 93))

-- The bytes are plain, and there are some. So are those of each name of the notation, which are letters and digits.
abbrev pub is_plain_name : List ℕ → Bool
is_plain_name [] = false
is_plain_name (b ∷ bytes) = list_all is_plain (b ∷ bytes)

-- no member has this name
abbrev pub NamesNoMember : List ℕ → List (List ℕ × ℕ) → Type 0
NamesNoMember name [] = Unit {0}
NamesNoMember name (m ∷ ms) = (name ≢ m.0) × NamesNoMember name ms

-- each member has a name of its own
abbrev pub HaveNames : List (List ℕ × ℕ) → Type 0
HaveNames [] = Unit {0}
HaveNames (m ∷ ms) = (is_plain_name m.0 ≡ true) × NamesNoMember m.0 ms × HaveNames ms

-- no candidate has this name
abbrev pub NamesNoVariant : List ℕ → VariantModels → Type 0
NamesNoVariant name no_variants = Unit {0}
NamesNoVariant name (variant_and other designator part parts) = (name ≢ other) × NamesNoVariant name parts

-- each member of an enumeration, and each candidate of a choice, has a name of its own
abbrev mutual
  pub IsNamed : NamedModel → Type 0
  IsNamed (NamedModel.enumeration members) = HaveNames members
  IsNamed (NamedModel.array n element) = IsNamed element
  IsNamed (NamedModel.sequence most element) = IsNamed element
  IsNamed (NamedModel.components parts) = AreComponentsNamed parts
  IsNamed (NamedModel.choice parts) = AreVariantsNamed parts
  IsNamed _ = Unit {0}

  pub AreComponentsNamed : ComponentModels → Type 0
  AreComponentsNamed no_components = Unit {0}
  AreComponentsNamed (component_and name part parts) = IsNamed part × AreComponentsNamed parts

  pub AreVariantsNamed : VariantModels → Type 0
  AreVariantsNamed no_variants = Unit {0}
  AreVariantsNamed (variant_and name designator part parts) =
      (is_plain_name name ≡ true) × NamesNoVariant name parts × IsNamed part × AreVariantsNamed parts

-- a text is the text of one value at most
abbrev pub EqualTextsAreOfEqualValues : Type 0
EqualTextsAreOfEqualValues = (type : NamedModel) (v w : ValueModel) → IsNamed type → Fits (shape_of type) v → Fits (shape_of type) w →
    value_text type v ≡ value_text type w → v ≡ w
