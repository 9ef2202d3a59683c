-- What a type that is written stands for (XSIS 038112, Courier, Data types): a type in which nothing is referred to. Which fault
-- is told, and the room for parts, are this project's rules.
use Rattle.std.specs.Prelude.{ℕ, zero, suc, ◌-◌, List, [], ◌∷◌, ◌++◌, map, Option, Some, None, Result, Ok, Err, Bool, nat_eq, if◌then◌else◌, option_map, is_some}
use Rattle.std.specs.Global.{Vec}
use Rattle.std.specs.List.{find, list_any}
use Rattle.std.specs.Str.{bytes_eq}
use Rattle.courier_notation.specs.Failing.{◌>>=◌, over}
use Rattle.courier_notation.specs.declared.written.Numeric.{Numeric}
use Rattle.courier_notation.specs.declared.written.Reference.{Reference}
use Rattle.courier_notation.specs.Written.{TypeModel, FieldModels, no_fields, field_and, CandidateModels, no_candidates, candidate_and, Designator}
use Rattle.courier_texts.specs.declared.named.Named.{Named}
use Rattle.courier_texts.specs.Named.{NamedModel, named_model, VariantModels, no_variants, variant_and}
use Rattle.courier_programs.specs.declared.name_reason.NameReason.TheVariants as reasons
use Rattle.courier_programs.specs.Meanings.{Components, components_from}
use Rattle.courier_programs.specs.Faults.{NameFault, steps}
use Rattle.courier_programs.specs.Scopes.{Env, name_text, last_name, type_named, word_of, spent}

-- members of an enumeration, or designators: their names and words
abbrev pub Members : Type 0
Members = List (List ℕ × ℕ)

-- the word of the member of that name
abbrev pub word_by_name : Members → List ℕ → Option ℕ
word_by_name members name = option_map (λ m. m.1) (find (λ m. bytes_eq m.0 name) members)

abbrev pub lists_word : Members → ℕ → Bool
lists_word members word = list_any (λ m. nat_eq m.1 word) members

-- no member before has that name
abbrev pub new_name : Env → Members → ℕ → Result (Unit {0}) NameFault
new_name e members name = if is_some (word_by_name members (name_text e.names name)) then Err (name, reasons.DoubledName) else Ok tt

-- no member before has that word
abbrev pub new_word : Members → ℕ → ℕ → Result ℕ NameFault
new_word members name word = if lists_word members word then Err (name, reasons.DoubledWord) else Ok word

-- ---- enumerations

unfoldable pub member_word : Env → Members → ℕ × Numeric → Result ℕ NameFault
member_word e members m = new_name e members m.0 >>= λ _. (word_of e m.1 >>= λ word. new_word members m.0 word)

unfoldable pub member_step : Env → Members × ℕ → ℕ × Numeric → Result (Members × ℕ) NameFault
member_step e st m = spent e st.1 1 >>= λ room. (member_word e st.0 m >>= λ word. Ok (st.0 ++ (name_text e.names m.0, word) ∷ [], room))

unfoldable pub enumeration_meant : Env → List (ℕ × Numeric) → ℕ → Result (NamedModel × ℕ) NameFault
enumeration_meant e members room = over NamedModel.enumeration (steps (member_step e) ([], room) members)

-- ---- arrays and sequences, whose elements one makes

unfoldable pub array_meant : Env → Numeric → (ℕ → Result (NamedModel × ℕ) NameFault) → ℕ → Result (NamedModel × ℕ) NameFault
array_meant e count one room = word_of e count >>= λ n. over (NamedModel.array n) (one room)

abbrev pub maximum_of : Env → Option Numeric → Result ℕ NameFault
maximum_of e (Some most) = word_of e most
maximum_of e None = Ok 65535

unfoldable pub sequence_meant : Env → Option Numeric → (ℕ → Result (NamedModel × ℕ) NameFault) → ℕ → Result (NamedModel × ℕ) NameFault
sequence_meant e most one room = maximum_of e most >>= λ n. over (NamedModel.sequence n) (one room)

-- ---- records

abbrev pub has_name : Env → List ℕ → ℕ → Bool
has_name e seen name = list_any (λ n. bytes_eq (name_text e.names n) (name_text e.names name)) seen

-- a name that differs from those before
abbrev pub once : Env → List ℕ → ℕ → Result (List ℕ) NameFault
once e seen name = if has_name e seen name then Err (name, reasons.DoubledName) else Ok (seen ++ name ∷ [])

-- a component or a candidate, whose type one makes: its name and its type
unfoldable pub named_part : Env → (ℕ → Result (NamedModel × ℕ) NameFault) → ℕ → ℕ → Result ((List ℕ × NamedModel) × ℕ) NameFault
named_part e one room name = spent e room 1 >>= λ left. (one left >>= λ t. Ok ((name_text e.names name, t.0), t.1))

-- a component of the type that one makes
unfoldable pub component_step : Env → (ℕ → Result (NamedModel × ℕ) NameFault) → Components × ℕ → ℕ → Result (Components × ℕ) NameFault
component_step e one st name = named_part e one st.1 name >>= λ part. Ok (st.0 ++ part.0 ∷ [], part.1)

-- the record of the components
unfoldable pub fields_meant : Result (Components × ℕ) NameFault → Result (NamedModel × ℕ) NameFault
fields_meant parts = over (λ all. NamedModel.components (components_from all)) parts

-- ---- choices

-- the candidates of a choice: their names, designators and types
abbrev pub Candidates : Type 0
Candidates = List (List ℕ × (ℕ × NamedModel))

abbrev pub variants_from : Candidates → VariantModels
variants_from [] = no_variants
variants_from (c ∷ cs) = variant_and c.0 c.1.0 c.1.1 (variants_from cs)

abbrev pub candidates_seen : List (Vec ℕ × (ℕ × Named)) → Candidates
candidates_seen parts = map (λ part. (part.0.items, (part.1.0, named_model part.1.1))) parts

abbrev pub enumeration_of : Reference → NamedModel → Result (Option Members) NameFault
enumeration_of r (NamedModel.enumeration members) = Ok (Some members)
enumeration_of r _ = Err (last_name r, reasons.NotEnumeration)

-- the members of the enumeration that the designators are of, if one is named
unfoldable pub tag_members : Env → Option Reference → Result (Option Members) NameFault
tag_members e (Some r) = type_named e r >>= λ t. enumeration_of r t.0
tag_members e None = Ok None

abbrev pub given_word : Env → Option Numeric → Result (Option ℕ) NameFault
given_word e (Some n) = word_of e n >>= λ word. Ok (Some word)
given_word e None = Ok None

-- the word of a member, and what is written behind the designator agrees with it
abbrev pub agreed : ℕ → Option ℕ → ℕ → Result ℕ NameFault
agreed name (Some given) word = if nat_eq given word then Ok word else Err (name, reasons.OtherNumber)
agreed name None word = Ok word

abbrev pub of_member : ℕ → Option ℕ → Option ℕ → Result ℕ NameFault
of_member name given (Some word) = agreed name given word
of_member name given None = Err (name, reasons.UnknownName)

abbrev pub given_alone : ℕ → Option ℕ → Result ℕ NameFault
given_alone name (Some word) = Ok word
given_alone name None = Err (name, reasons.NoDesignator)

abbrev pub chosen_word : Env → Option Members → ℕ → Option ℕ → Result ℕ NameFault
chosen_word e (Some members) name given = of_member name given (word_by_name members (name_text e.names name))
chosen_word e None name given = given_alone name given

-- the word of a designator that differs from those before
unfoldable pub designator_word : Env → Option Members → Members → Designator → Result ℕ NameFault
designator_word e tag taken d =
    new_name e taken d.0 >>= λ _. (given_word e d.1 >>= λ given. (chosen_word e tag d.0 given >>= λ word. new_word taken d.0 word))

-- designators of the choice, and of them those that are written together
abbrev pub Designators : Type 0
Designators = Members × List (ℕ × ℕ)

unfoldable pub designator_step : Env → Option Members → Designators → Designator → Result Designators NameFault
designator_step e tag st d = designator_word e tag st.0 d >>= λ word. Ok (st.0 ++ (name_text e.names d.0, word) ∷ [], st.1 ++ (d.0, word) ∷ [])

-- a candidate of the type that one makes
unfoldable pub candidate_step : Env → (ℕ → Result (NamedModel × ℕ) NameFault) → Candidates × ℕ → ℕ × ℕ → Result (Candidates × ℕ) NameFault
candidate_step e one st chosen = named_part e one st.1 chosen.0 >>= λ part. Ok (st.0 ++ (part.0.0, (chosen.1, part.0.1)) ∷ [], part.1)

-- candidates that are written together, of the type that one makes, and all designators up to theirs
unfoldable pub candidate_group : Env → Option Members → (ℕ → Result (NamedModel × ℕ) NameFault) → Members → Candidates × ℕ → List Designator → Result (Members × (Candidates × ℕ)) NameFault
candidate_group e tag one taken st designators =
    steps (designator_step e tag) (taken, []) designators >>= λ d. (steps (candidate_step e one) st d.1 >>= λ next. Ok (d.0, next))

-- the choice of the candidates that are made with the members of the tag
unfoldable pub choice_meant : Env → Option Reference → (Option Members → Result (Candidates × ℕ) NameFault) → Result (NamedModel × ℕ) NameFault
choice_meant e tag candidates = tag_members e tag >>= λ members. over (λ all. NamedModel.choice (variants_from all)) (candidates members)

-- ---- references

unfoldable pub referred : Env → Reference → ℕ → Result (NamedModel × ℕ) NameFault
referred e r room = type_named e r >>= λ t. (spent e room (t.1 - 1) >>= λ left. Ok (t.0, left))

-- ---- parts, whose types one makes

-- components behind those of these names
unfoldable pub components_meant : Env → (TypeModel → ℕ → Result (NamedModel × ℕ) NameFault) → List ℕ → Components × ℕ → FieldModels → Result (Components × ℕ) NameFault
components_meant e one seen st no_fields = Ok st
components_meant e one seen st (field_and names type groups) =
    steps (once e) seen names >>= λ all. (steps (component_step e (one type)) st names >>= λ next. components_meant e one all next groups)

-- candidates behind those of these designators
unfoldable pub candidates_meant : Env → Option Members → (TypeModel → ℕ → Result (NamedModel × ℕ) NameFault) → Members → Candidates × ℕ → CandidateModels → Result (Candidates × ℕ) NameFault
candidates_meant e tag one taken st no_candidates = Ok st
candidates_meant e tag one taken st (candidate_and designators type groups) =
    candidate_group e tag (one type) taken st designators >>= λ next. candidates_meant e tag one next.0 next.1 groups

-- ---- types

-- a type whose parts one makes
unfoldable pub type_level_meant : Env → (TypeModel → ℕ → Result (NamedModel × ℕ) NameFault) → TypeModel → ℕ → Result (NamedModel × ℕ) NameFault
type_level_meant e one (TypeModel.predefined type) room = Ok (NamedModel.predefined type, room)
type_level_meant e one (TypeModel.enumeration members) room = enumeration_meant e members room
type_level_meant e one (TypeModel.array count element) room = array_meant e count (one element) room
type_level_meant e one (TypeModel.sequence most element) room = sequence_meant e most (one element) room
type_level_meant e one (TypeModel.fields groups) room = fields_meant (components_meant e one [] ([], room) groups)
type_level_meant e one (TypeModel.choice tag groups) room = choice_meant e tag (λ members. candidates_meant e members one [] ([], room) groups)
type_level_meant e one (TypeModel.named r) room = referred e r room

-- What the type stands for, and how many parts there is room for behind it: each type, member, component and candidate takes
-- one, and what is referred to as many as it has. Types stand in one another at most so deep; no text has deeper ones.
unfoldable pub type_meant : Env → ℕ → TypeModel → ℕ → Result (NamedModel × ℕ) NameFault
type_meant e zero type room = Err (e.own, reasons.TooDeep)
type_meant e (suc depth) type room = spent e room 1 >>= λ left. type_level_meant e (type_meant e depth) type left
