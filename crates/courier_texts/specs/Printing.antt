-- Values as text, in Courier's notation of constants (XSIS 038112, Courier). The escapes of a string, and that all stands on
-- one line, are this project's.
use Rattle.std.specs.Prelude.{ℕ, ◌+◌, ◌/◌, ◌%◌, ◌==◌, List, [], ◌∷◌, ◌++◌, Bool, true, false, nat_lt, if◌then◌else◌, codes}
use Rattle.std.specs.List.{flat_map}
use Rattle.std.specs.Fmt.{decimal, signed_decimal}
use Rattle.courier_types.specs.declared.predefined.Predefined.{Predefined}
use Rattle.courier_types.specs.declared.predefined.Predefined.TheVariants.{Boolean, Cardinal, LongCardinal, Integer, LongInteger, Unspecified, Text}
use Rattle.courier_types.specs.Value.{ValueModel, ValueModels, no_values, value_and}
use Rattle.courier_texts.specs.Named.{NamedModel, ComponentModels, component_and, VariantModels, no_variants, variant_and}

abbrev pub boolean_text : Bool → List ℕ
boolean_text true = codes "TRUE"
boolean_text false = codes "FALSE"

-- a hex digit in lower case
abbrev pub hex_digit : ℕ → ℕ
hex_digit n = if nat_lt n 10 then 48 + n else 87 + n

-- a byte of a string that is no printable one
abbrev pub escaped : ℕ → List ℕ
escaped byte = 92 ∷ 120 ∷ hex_digit (byte / 16) ∷ hex_digit (byte % 16) ∷ []

-- a byte of a string: a quote and a backslash stand behind a backslash, and what is not printable is escaped
abbrev pub quoted_byte : ℕ → List ℕ
quoted_byte byte =
    if byte == 34 then 92 ∷ 34 ∷ [] else if byte == 92 then 92 ∷ 92 ∷ [] else if nat_lt byte 32 then escaped byte else
    if nat_lt 126 byte then escaped byte else byte ∷ []

-- a string between quotes
abbrev pub quoted : List ℕ → List ℕ
quoted bytes = 34 ∷ flat_map quoted_byte bytes ++ 34 ∷ []

-- a value of a predefined type; another value has no text
abbrev pub predefined_text : Predefined → ValueModel → List ℕ
predefined_text Boolean (ValueModel.boolean b) = boolean_text b
predefined_text Cardinal (ValueModel.cardinal n) = decimal n
predefined_text LongCardinal (ValueModel.long_cardinal n) = decimal n
predefined_text Integer (ValueModel.integer z) = signed_decimal z
predefined_text LongInteger (ValueModel.long_integer z) = signed_decimal z
predefined_text Unspecified (ValueModel.unspecified n) = decimal n
predefined_text Text (ValueModel.text bytes) = quoted bytes
predefined_text _ _ = []

-- the name of a member; a word that is not listed has none
abbrev pub member_text : List (List ℕ × ℕ) → ℕ → List ℕ
member_text [] n = []
member_text (m ∷ ms) n = if m.1 == n then m.0 else member_text ms n

-- elements with commas between, and this in front of the first
abbrev pub elements_text : List ℕ → (ValueModel → List ℕ) → ValueModels → List ℕ
elements_text front one no_values = []
elements_text front one (value_and v vs) = front ++ one v ++ elements_text (codes ", ") one vs

-- The text of a value of the type. It says something of values that fit the type's shape; others have the text of the parts
-- that do.
unfoldable mutual
  pub value_text : NamedModel → ValueModel → List ℕ
  value_text (NamedModel.predefined type) v = predefined_text type v
  value_text (NamedModel.enumeration members) (ValueModel.enumeration n) = member_text members n
  value_text (NamedModel.array n element) (ValueModel.array vs) = codes "[" ++ elements_text [] (value_text element) vs ++ codes "]"
  value_text (NamedModel.sequence most element) (ValueModel.sequence vs) = codes "[" ++ elements_text [] (value_text element) vs ++ codes "]"
  value_text (NamedModel.components parts) (ValueModel.fields vs) = codes "[" ++ components_text [] parts vs ++ codes "]"
  value_text (NamedModel.choice parts) (ValueModel.choice designator v) = variant_text parts designator v
  value_text _ _ = []

  -- components with their names and with commas between, and this in front of the first
  pub components_text : List ℕ → ComponentModels → ValueModels → List ℕ
  components_text front (component_and name part parts) (value_and v vs) =
      front ++ (name ++ codes ": " ++ value_text part v) ++ components_text (codes ", ") parts vs
  components_text front _ _ = []

  -- the name of the candidate, and its value
  pub variant_text : VariantModels → ℕ → ValueModel → List ℕ
  variant_text no_variants chosen v = []
  variant_text (variant_and name designator part parts) chosen v =
      if designator == chosen then (name ++ codes " " ++ value_text part v) else variant_text parts chosen v
