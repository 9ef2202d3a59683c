-- How a type is written, token by token (XSIS 038112, Courier): the grammar of types.
use Rattle.std.specs.Prelude.{ℕ, zero, suc, ◌<◌, ◌≤◌, List, [], ◌∷◌, ◌++◌, length, Option, Some, None, Bool, true, false}
use Rattle.std.specs.List.{AllByRecursion}
use Rattle.courier_types.specs.declared.predefined.Predefined.{Predefined}
use Rattle.courier_types.specs.declared.predefined.Predefined.TheVariants as predefined_types
use Rattle.courier_notation.specs.declared.token.Token.{Token}
use Rattle.courier_notation.specs.declared.token.Token.TheVariants as tokens
use Rattle.courier_notation.specs.declared.written.Numeric.{Numeric}
use Rattle.courier_notation.specs.declared.written.Numeric.TheVariants as numerics
use Rattle.courier_notation.specs.declared.written.Reference.{Reference}
use Rattle.courier_notation.specs.declared.written.Reference.TheVariants as references
use Rattle.courier_notation.specs.Written.{TypeModel, FieldModels, no_fields, field_and, CandidateModels, no_candidates, candidate_and, Designator}
use Rattle.courier_notation.specs.Reading.{most_parts}

-- ---- names, numbers and lists

abbrev pub name_spelling : ℕ → List Token
name_spelling n = tokens.Name n ∷ []

abbrev pub reference_spelling : Reference → List Token
reference_spelling (references.Own n) = tokens.Name n ∷ []
reference_spelling (references.Other program n) = tokens.Name program ∷ tokens.Dot ∷ tokens.Name n ∷ []

abbrev pub numeric_spelling : Numeric → List Token
numeric_spelling (numerics.Number n) = tokens.Number n ∷ []
numeric_spelling (numerics.Constant r) = reference_spelling r

abbrev pub maximum_spelling : Option Numeric → List Token
maximum_spelling None = []
maximum_spelling (Some n) = numeric_spelling n

abbrev pub tag_spelling : Option Reference → List Token
tag_spelling None = []
tag_spelling (Some r) = reference_spelling r

abbrev pub number_spelling : Option Numeric → List Token
number_spelling None = []
number_spelling (Some n) = tokens.OpenParenthesis ∷ numeric_spelling n ++ tokens.CloseParenthesis ∷ []

abbrev pub member_spelling : ℕ × Numeric → List Token
member_spelling m = tokens.Name m.0 ∷ number_spelling (Some m.1)

abbrev pub designator_spelling : Designator → List Token
designator_spelling d = tokens.Name d.0 ∷ number_spelling d.1

-- parts, each behind a comma
abbrev pub more_spelling : {A : Type 0} → (A → List Token) → List A → List Token
more_spelling spell [] = []
more_spelling spell (x ∷ xs) = tokens.Comma ∷ spell x ++ more_spelling spell xs

-- parts with commas between
abbrev pub parts_spelling : {A : Type 0} → (A → List Token) → List A → List Token
parts_spelling spell [] = []
parts_spelling spell (x ∷ xs) = spell x ++ more_spelling spell xs

-- texts with commas between
abbrev pub joined : List (List Token) → List Token
joined = parts_spelling (λ text. text)

-- ---- types

-- the keywords of a predefined type
abbrev pub predefined_spelling : Predefined → List Token
predefined_spelling predefined_types.Boolean = tokens.Boolean ∷ []
predefined_spelling predefined_types.Cardinal = tokens.Cardinal ∷ []
predefined_spelling predefined_types.LongCardinal = tokens.Long ∷ tokens.Cardinal ∷ []
predefined_spelling predefined_types.Integer = tokens.Integer ∷ []
predefined_spelling predefined_types.LongInteger = tokens.Long ∷ tokens.Integer ∷ []
predefined_spelling predefined_types.Unspecified = tokens.Unspecified ∷ []
predefined_spelling predefined_types.Text = tokens.String ∷ []

abbrev mutual
  pub type_spelling : TypeModel → List Token
  type_spelling (TypeModel.predefined type) = predefined_spelling type
  type_spelling (TypeModel.enumeration members) = tokens.OpenBrace ∷ parts_spelling member_spelling members ++ tokens.CloseBrace ∷ []
  type_spelling (TypeModel.array n element) = tokens.Array ∷ numeric_spelling n ++ tokens.Of ∷ type_spelling element
  type_spelling (TypeModel.sequence most element) = tokens.Sequence ∷ maximum_spelling most ++ tokens.Of ∷ type_spelling element
  type_spelling (TypeModel.fields fields) = tokens.Record ∷ tokens.OpenBracket ∷ joined (field_texts fields) ++ tokens.CloseBracket ∷ []
  type_spelling (TypeModel.choice tag candidates) =
      tokens.Choice ∷ tag_spelling tag ++ tokens.Of ∷ tokens.OpenBrace ∷ joined (candidate_texts candidates) ++ tokens.CloseBrace ∷ []
  type_spelling (TypeModel.named r) = reference_spelling r

  -- each component as it is written
  pub field_texts : FieldModels → List (List Token)
  field_texts no_fields = []
  field_texts (field_and names type fields) = (parts_spelling name_spelling names ++ tokens.Colon ∷ type_spelling type) ∷ field_texts fields

  -- each candidate as it is written
  pub candidate_texts : CandidateModels → List (List Token)
  candidate_texts no_candidates = []
  candidate_texts (candidate_and designators type candidates) =
      (parts_spelling designator_spelling designators ++ tokens.Arrow ∷ type_spelling type) ∷ candidate_texts candidates

-- components, and those behind a first one
abbrev pub fields_spelling : FieldModels → List Token
fields_spelling fields = joined (field_texts fields)

abbrev pub more_fields_spelling : FieldModels → List Token
more_fields_spelling fields = more_spelling (λ text. text) (field_texts fields)

-- candidates, and those behind a first one
abbrev pub candidates_spelling : CandidateModels → List Token
candidates_spelling candidates = joined (candidate_texts candidates)

abbrev pub more_candidates_spelling : CandidateModels → List Token
more_candidates_spelling candidates = more_spelling (λ text. text) (candidate_texts candidates)

-- ---- which types are written

abbrev pub IsNumeric : Numeric → Type 0
IsNumeric (numerics.Number n) = n < 65536
IsNumeric (numerics.Constant r) = Unit {0}

abbrev pub IsNumberIfAny : Option Numeric → Type 0
IsNumberIfAny None = Unit {0}
IsNumberIfAny (Some n) = IsNumeric n

-- at least one part, and no more than a list may have
abbrev pub AreParts : {A : Type 0} → List A → Type 0
AreParts parts = (1 ≤ length parts) × (length parts ≤ most_parts)

abbrev pub field_count : FieldModels → ℕ
field_count no_fields = zero
field_count (field_and names type fields) = suc (field_count fields)

abbrev pub candidate_count : CandidateModels → ℕ
candidate_count no_candidates = zero
candidate_count (candidate_and designators type candidates) = suc (candidate_count candidates)

-- types stand in one another at most so deep, numbers are words, and no list has too many parts
abbrev mutual
  pub IsType : ℕ → TypeModel → Type 0
  IsType zero type = ⊥
  IsType (suc depth) (TypeModel.predefined type) = Unit {0}
  IsType (suc depth) (TypeModel.enumeration members) = AreParts members × AllByRecursion (λ m. IsNumeric m.1) members
  IsType (suc depth) (TypeModel.array n element) = IsNumeric n × IsType depth element
  IsType (suc depth) (TypeModel.sequence most element) = IsNumberIfAny most × IsType depth element
  IsType (suc depth) (TypeModel.fields fields) = (field_count fields ≤ most_parts) × AreFields depth fields
  IsType (suc depth) (TypeModel.choice tag candidates) =
      (1 ≤ candidate_count candidates) × (candidate_count candidates ≤ most_parts) × AreCandidates depth candidates
  IsType (suc depth) (TypeModel.named r) = Unit {0}

  pub AreFields : ℕ → FieldModels → Type 0
  AreFields depth no_fields = Unit {0}
  AreFields depth (field_and names type fields) = AreParts names × IsType depth type × AreFields depth fields

  pub AreCandidates : ℕ → CandidateModels → Type 0
  AreCandidates depth no_candidates = Unit {0}
  AreCandidates depth (candidate_and designators type candidates) =
      AreParts designators × AllByRecursion (λ d. IsNumberIfAny d.1) designators × IsType depth type × AreCandidates depth candidates

-- what may stand behind a type: no dot and no parenthesis, with which it would go on
abbrev pub is_apart : List Token → Bool
is_apart (tokens.Dot ∷ ts) = false
is_apart (tokens.OpenParenthesis ∷ ts) = false
is_apart ts = true
