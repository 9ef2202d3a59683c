-- Reading a type from left to right (XSIS 038112, Courier). Which fault is told is this project's rule: the first token that
-- does not go on as a type does, or a limit that is passed there.
use Rattle.std.specs.Prelude.{◌⊎◌, ℕ, zero, suc, ◌+◌, List, [], ◌∷◌, length, Option, Some, None, Result, Ok, Err, IsOk, Bool, nat_lt, if◌then◌else◌}
use Rattle.courier_types.specs.declared.predefined.Predefined.TheVariants as predefined_types
use Rattle.courier_notation.specs.contracts.token.TokenPartialEq.TheImpl as token_eq
use Rattle.courier_notation.specs.declared.reason.Reason.{Reason}
use Rattle.courier_notation.specs.declared.reason.Reason.TheVariants as reasons
use Rattle.courier_notation.specs.declared.token.Token.{Token}
use Rattle.courier_notation.specs.declared.token.Token.TheVariants as tokens
use Rattle.courier_notation.specs.declared.limits.TheConstants.{MOST_PARTS}
use Rattle.courier_notation.specs.declared.written.Numeric.{Numeric}
use Rattle.courier_notation.specs.declared.written.Numeric.TheVariants as numerics
use Rattle.courier_notation.specs.declared.written.Reference.{Reference}
use Rattle.courier_notation.specs.declared.written.Reference.TheVariants as references
use Rattle.courier_notation.specs.Failing.{◌>>=◌, over}
use Rattle.courier_notation.specs.Written.{TypeModel, Designator, fields_from, candidates_from}

-- how many tokens are left where reading stops, the wrong token among them, and why
abbrev pub Fault : Type 0
Fault = ℕ × Reason

-- what is read of tokens, and the tokens behind it
abbrev pub Reader : Type 0 → Type 0
Reader A = List Token → Result (A × List Token) Fault

-- the tokens behind what was read
abbrev pub passed : {A : Type 0} → Result (A × List Token) Fault → Result (List Token) Fault
passed (Ok x) = Ok x.1
passed (Err e) = Err e

abbrev pub most_parts : ℕ
most_parts = MOST_PARTS

-- ---- single tokens

abbrev pub is_token : Token → Token → Bool
is_token = (token_eq.ghosts).eq

-- what stands behind the wanted token, which has to stand first
abbrev pub token_at : Token → Reason → List Token → Result (List Token) Fault
token_at wanted missing [] = Err (0, missing)
token_at wanted missing (t ∷ ts) = if is_token t wanted then Ok ts else Err (length (t ∷ ts), missing)

abbrev pub name_at : Reader ℕ
name_at (tokens.Name n ∷ ts) = Ok (n, ts)
name_at ts = Err (length ts, reasons.NoName)

-- what begins with a name, from that name and what is read behind it
unfoldable pub by_name : {A : Type 0} → (ℕ → Reader A) → Reader A
by_name behind ts = name_at ts >>= λ name. behind name.0 name.1

-- ---- names and numbers

-- a name that is referred to, behind its first part
abbrev pub reference_behind : ℕ → Reader Reference
reference_behind n (tokens.Dot ∷ ts) = over (references.Other n) (name_at ts)
reference_behind n ts = Ok (references.Own n, ts)

-- the number, if it is a word; the tokens are those behind it
abbrev pub small_or_fault : ℕ → Reader ℕ
small_or_fault n ts = if nat_lt n 65536 then Ok (n, ts) else Err (length ts + 1, reasons.LargeNumber)

-- a number, or the name of a constant
unfoldable pub numeric_at : Reader Numeric
numeric_at (tokens.Number n ∷ ts) = over numerics.Number (small_or_fault n ts)
numeric_at (tokens.Name n ∷ ts) = over numerics.Constant (reference_behind n ts)
numeric_at ts = Err (length ts, reasons.NoNumber)

-- ---- lists

-- what stands behind a comma, if there is one
abbrev pub behind_comma : List Token → Option (List Token)
behind_comma (tokens.Comma ∷ ts) = Some ts
behind_comma ts = None

-- the parts behind a comma, if there is one; no more parts without it
abbrev pub others_at : {A : Type 0} → Reader (List A) → List Token → Option (List Token) → Result (List A × List Token) Fault
others_at others ts (Some next) = others next
others_at others ts None = Ok ([], ts)

-- what stands behind this token, if it stands first
abbrev pub behind_first : Token → List Token → Option (List Token)
behind_first first [] = None
behind_first first (t ∷ ts) = if is_token t first then Some ts else None

-- the parts that stand behind this token; no parts where it does not stand first
unfoldable pub optional : {A : Type 0} → Token → Reader (List A) → Reader (List A)
optional first parts ts = others_at parts ts (behind_first first ts)

-- parts with commas between, at most so many
unfoldable pub listed : {A : Type 0} → Reader A → ℕ → Reader (List A)
listed one zero ts = Err (length ts, reasons.TooManyParts)
listed one (suc n) ts = one ts >>= λ first. over (λ others. first.0 ∷ others) (others_at (listed one n) first.1 (behind_comma first.1))

-- parts with commas between, behind an opening token and up to a closing one
unfoldable pub enclosed : {A : Type 0} → Token × Reason → Token × Reason → Reader A → Reader (List A)
enclosed opening closing one ts = do
  inside ← token_at opening.0 opening.1 ts
  parts ← listed one most_parts inside
  rest ← token_at closing.0 closing.1 parts.1
  Ok (parts.0, rest)

-- ---- parts of types

-- what stands in parentheses
unfoldable pub in_parentheses : {A : Type 0} → Reader A → Reader A
in_parentheses one ts = do
  inside ← token_at tokens.OpenParenthesis reasons.NoOpenParenthesis ts
  x ← one inside
  rest ← token_at tokens.CloseParenthesis reasons.NoCloseParenthesis x.1
  Ok (x.0, rest)

-- a name, and its number in parentheses
unfoldable pub member_at : Reader (ℕ × Numeric)
member_at ts = do
  name ← name_at ts
  number ← in_parentheses numeric_at name.1
  Ok ((name.0, number.0), number.1)

-- the number of a designator, where one is written
unfoldable pub designator_behind : ℕ → Reader Designator
designator_behind n (tokens.OpenParenthesis ∷ ts) = do
  number ← in_parentheses numeric_at (tokens.OpenParenthesis ∷ ts)
  Ok ((n, Some number.0), number.1)
designator_behind n ts = Ok ((n, None), ts)

abbrev pub designator_at : Reader Designator
designator_at = by_name designator_behind

-- parts that are written together, and their type behind a mark, which is given with what is told where it is missing
unfoldable pub group_at : {A : Type 0} → Reader A → Token × Reason → Reader TypeModel → Reader (List A × TypeModel)
group_at part mark one ts = do
  parts ← listed part most_parts ts
  rest ← token_at mark.0 mark.1 parts.1
  over (λ type. (parts.0, type)) (one rest)

-- names, and their type behind a colon
abbrev pub field_at : Reader TypeModel → Reader (List ℕ × TypeModel)
field_at = group_at name_at (tokens.Colon, reasons.NoColon)

-- components up to a bracket, perhaps none
unfoldable pub fields_behind : Reader TypeModel → Reader (List (List ℕ × TypeModel))
fields_behind one (tokens.CloseBracket ∷ ts) = Ok ([], ts)
fields_behind one ts = do
  fields ← listed (field_at one) most_parts ts
  rest ← token_at tokens.CloseBracket reasons.NoCloseBracket fields.1
  Ok (fields.0, rest)

-- components in brackets
unfoldable pub fields_at : Reader TypeModel → Reader (List (List ℕ × TypeModel))
fields_at one ts = token_at tokens.OpenBracket reasons.NoOpenBracket ts >>= fields_behind one

-- designators, and their type behind an arrow
abbrev pub candidate_at : Reader TypeModel → Reader (List Designator × TypeModel)
candidate_at = group_at designator_at (tokens.Arrow, reasons.NoArrow)

-- the enumeration that designators are of, if it is named
abbrev pub tag_at : Reader (Option Reference)
tag_at (tokens.Name n ∷ ts) = over Some (reference_behind n ts)
tag_at ts = Ok (None, ts)

-- a maximum, if one is written
unfoldable pub maximum_at : Reader (Option Numeric)
maximum_at (tokens.Of ∷ ts) = Ok (None, tokens.Of ∷ ts)
maximum_at ts = over Some (numeric_at ts)

-- ---- types, behind their first token

unfoldable pub enumeration_behind : Reader TypeModel
enumeration_behind ts = do
  members ← listed member_at most_parts ts
  rest ← token_at tokens.CloseBrace reasons.NoCloseBrace members.1
  Ok (TypeModel.enumeration members.0, rest)

abbrev pub long_behind : Reader TypeModel
long_behind (tokens.Cardinal ∷ ts) = Ok (TypeModel.predefined predefined_types.LongCardinal, ts)
long_behind (tokens.Integer ∷ ts) = Ok (TypeModel.predefined predefined_types.LongInteger, ts)
long_behind ts = Err (length ts, reasons.NoType)

unfoldable pub array_behind : Reader TypeModel → Reader TypeModel
array_behind one ts = do
  number ← numeric_at ts
  rest ← token_at tokens.Of reasons.NoOf number.1
  over (TypeModel.array number.0) (one rest)

unfoldable pub sequence_behind : Reader TypeModel → Reader TypeModel
sequence_behind one ts = do
  most ← maximum_at ts
  rest ← token_at tokens.Of reasons.NoOf most.1
  over (TypeModel.sequence most.0) (one rest)

unfoldable pub choice_behind : Reader TypeModel → Reader TypeModel
choice_behind one ts = do
  tag ← tag_at ts
  rest ← token_at tokens.Of reasons.NoOf tag.1
  inside ← token_at tokens.OpenBrace reasons.NoOpenBrace rest
  candidates ← listed (candidate_at one) most_parts inside
  behind ← token_at tokens.CloseBrace reasons.NoCloseBrace candidates.1
  Ok (TypeModel.choice tag.0 (candidates_from candidates.0), behind)

abbrev pub record_behind : Reader TypeModel → Reader TypeModel
record_behind one ts = over (λ fields. TypeModel.fields (fields_from fields)) (fields_at one ts)

-- a type by its first token
unfoldable pub type_behind : Reader TypeModel → Token → Reader TypeModel
type_behind one tokens.Boolean ts = Ok (TypeModel.predefined predefined_types.Boolean, ts)
type_behind one tokens.Cardinal ts = Ok (TypeModel.predefined predefined_types.Cardinal, ts)
type_behind one tokens.Integer ts = Ok (TypeModel.predefined predefined_types.Integer, ts)
type_behind one tokens.Unspecified ts = Ok (TypeModel.predefined predefined_types.Unspecified, ts)
type_behind one tokens.String ts = Ok (TypeModel.predefined predefined_types.Text, ts)
type_behind one tokens.Long ts = long_behind ts
type_behind one tokens.OpenBrace ts = enumeration_behind ts
type_behind one tokens.Array ts = array_behind one ts
type_behind one tokens.Sequence ts = sequence_behind one ts
type_behind one tokens.Record ts = record_behind one ts
type_behind one tokens.Choice ts = choice_behind one ts
type_behind one (tokens.Name n) ts = over TypeModel.named (reference_behind n ts)
type_behind one _ ts = Err (length ts + 1, reasons.NoType)

-- what is read by its first token, where the like stands in it at most so deep; and what is told where no token is left
unfoldable pub nested : {A : Type 0} → (Reader A → Token → Reader A) → Reason → ℕ → Reader A
nested behind missing zero ts = Err (length ts, reasons.TooDeep)
nested behind missing (suc depth) [] = Err (0, missing)
nested behind missing (suc depth) (t ∷ ts) = behind (nested behind missing depth) t ts

-- a type in which types stand at most so deep
abbrev pub type_at : ℕ → Reader TypeModel
type_at = nested type_behind reasons.NoType

-- ---- memory: a list grows behind its first part, and an element of an array or a sequence is put on the heap

-- what was read is right, and what stands behind it wants memory
abbrev pub Behind : {A : Type 0} → Result (A × List Token) Fault → (List Token → Type 0) → Type 0
Behind (Ok x) wants = wants x.1
Behind (Err e) wants = ⊥

-- the tokens are right, and what stands behind them wants memory
abbrev pub Then : Result (List Token) Fault → (List Token → Type 0) → Type 0
Then (Ok ts) wants = wants ts
Then (Err e) wants = ⊥

-- a first component is named
abbrev pub FieldsWant : List Token → Type 0
FieldsWant ts = Then (token_at tokens.OpenBracket reasons.NoOpenBracket ts) (λ inside. IsOk (name_at inside))

-- a first candidate has a designator
abbrev pub ChoiceWants : List Token → Type 0
ChoiceWants ts = Behind (tag_at ts) (λ rest. Then (token_at tokens.Of reasons.NoOf rest) (λ behind. Then (token_at tokens.OpenBrace reasons.NoOpenBrace behind) (λ inside. IsOk (designator_at inside))))

-- an element is read, or its type wants memory
abbrev pub ElementWants : Reader TypeModel → (List Token → Type 0) → List Token → Type 0
ElementWants one wants ts = Then (token_at tokens.Of reasons.NoOf ts) (λ rest. wants rest ⊎ IsOk (one rest))

-- a type wants memory behind its first token
abbrev pub BehindWants : Reader TypeModel → (List Token → Type 0) → Token → List Token → Type 0
BehindWants one wants tokens.OpenBrace ts = IsOk (member_at ts)
BehindWants one wants tokens.Array ts = Behind (numeric_at ts) (ElementWants one wants)
BehindWants one wants tokens.Sequence ts = Behind (maximum_at ts) (ElementWants one wants)
BehindWants one wants tokens.Record ts = FieldsWant ts
BehindWants one wants tokens.Choice ts = ChoiceWants ts
BehindWants one wants _ ts = ⊥

-- a type wants memory: it has members, components or candidates, or an element
abbrev pub TypeWants : ℕ → List Token → Type 0
TypeWants zero ts = ⊥
TypeWants (suc depth) [] = ⊥
TypeWants (suc depth) (t ∷ ts) = BehindWants (type_at depth) (TypeWants depth) t ts
