-- Where something grows.
use Rattle.std.proofs.Common.{◌≡◌, ℕ, zero, suc, ◌+◌, ◌-◌, ◌<◌, List, [], ◌∷◌, length, Vec, Global, Result, Ok, Err, IsOk, Bool, true, false, cond, is_some, drop, inr, refl, sym, ap, arith}
use Rattle.courier_notation.specs.Failing.{◌>>=◌, over}
use Rattle.courier_notation.proofs.Failing.{bind_ok, first_was_right, is_right, ok_is, over_ok}
use Rattle.courier_notation.specs.declared.declared.Dependency.{Dependency}
use Rattle.courier_notation.specs.Written.{TypeModel, field_models, fields_from, no_fields, field_and}
use Rattle.courier_notation.specs.declared.written.WrittenType.{WrittenType}
use Rattle.courier_texts.specs.Named.{HasParts, NamedModel}
use Rattle.courier_programs.specs.declared.program.Program.{Program}
use Rattle.courier_notation.specs.ProgramModels.{FieldList}
use Rattle.courier_programs.specs.Declarations.{most_depth, record_shape, sound, whole_fields}
use Rattle.courier_programs.specs.Meanings.{Components, FieldsModel, components_from}
use Rattle.courier_programs.specs.Memory.{FirstWasRead, HasFields, ResolvedTypeWants}
use Rattle.courier_programs.specs.Faults.{NameFault}
use Rattle.courier_programs.specs.Resolving.{dependency_step}
use Rattle.courier_programs.specs.Scopes.{Env, dependency_of, program_by, spent, name_text, type_named, word_of}
use Rattle.courier_programs.specs.Types.{array_meant, candidates_meant, choice_meant, components_meant, enumeration_meant, fields_meant, maximum_of, named_part, referred, sequence_meant, tag_members, type_level_meant, type_meant, variants_from}

-- ---- parts

pub groups_were_there : (e : Env) (one : TypeModel → ℕ → Result (NamedModel × ℕ) NameFault) (room : ℕ) (groups : List (Vec ℕ Global × WrittenType)) (st : Components × ℕ)
    → components_meant e one [] ([], room) (fields_from (field_models groups)) ≡ Ok st → 0 < length st.0 → 0 < length groups
unfolding components_meant
groups_were_there e one room [] st is some =
    let none : length st.0 ≡ 0 = ap (λ (x : Components × ℕ). length x.0) (sym (ok_is ([], room) st is)) in
    absurd (omega (arith, none))
groups_were_there e one room (g ∷ groups) st is some = omega arith

pub has_fields : (groups : List (Vec ℕ Global × WrittenType)) → 0 < length groups → HasFields (fields_from (field_models groups))
has_fields [] h = absurd (omega arith)
has_fields (g ∷ groups) h = tt

-- ---- types

its_parts : (n : NamedModel) (room : ℕ) (t : NamedModel × ℕ) → ◌≡◌ {A = Result (NamedModel × ℕ) NameFault} (Ok (n, room)) (Ok t) → HasParts t.0 → HasParts n
its_parts n room t is some =
    let same : t ≡ (n, room) = sym (ok_is (n, room) t is) in
    rw same at some

level_wants : (e : Env) (depth : ℕ) (type : TypeModel) (room : ℕ) (t : NamedModel × ℕ) → type_level_meant e (type_meant e depth) type room ≡ Ok t → HasParts t.0 → ResolvedTypeWants e type
unfolding type_level_meant enumeration_meant array_meant sequence_meant fields_meant components_meant choice_meant referred
level_wants e depth (TypeModel.predefined type) room t is some = its_parts (NamedModel.predefined type) room t is some
level_wants e depth (TypeModel.enumeration []) room t is some = its_parts (NamedModel.enumeration []) room t is some
level_wants e depth (TypeModel.enumeration (m ∷ members)) room t is some = omega arith
level_wants e depth (TypeModel.array count element) room t is some =
    let n = bind_ok (word_of e count) (λ n. over (NamedModel.array n) (type_meant e depth element room)) t is in
    let x = over_ok (NamedModel.array n.0) (type_meant e depth element room) t n.2 in
    (is_right n.1, inr (depth, room, is_right x.1))
level_wants e depth (TypeModel.sequence most element) room t is some =
    let n = bind_ok (maximum_of e most) (λ n. over (NamedModel.sequence n) (type_meant e depth element room)) t is in
    let x = over_ok (NamedModel.sequence n.0) (type_meant e depth element room) t n.2 in
    (is_right n.1, inr (depth, room, is_right x.1))
level_wants e depth (TypeModel.fields no_fields) room t is some = its_parts (NamedModel.components (components_from [])) room t is some
level_wants e depth (TypeModel.fields (field_and names type groups)) room t is some = tt
level_wants e depth (TypeModel.choice tag groups) room t is some = first_was_right (tag_members e tag) (λ members. over (λ all. NamedModel.choice (variants_from all)) (candidates_meant e members (type_meant e depth) [] ([], room) groups)) t is
level_wants e depth (TypeModel.named r) room t is some = first_was_right (type_named e r) (λ found. spent e room (found.1 - 1) >>= λ left. Ok (found.0, left)) t is

behind_room : (e : Env) (depth : ℕ) (type : TypeModel) (room : Result ℕ NameFault) (t : NamedModel × ℕ) → (room >>= λ left. type_level_meant e (type_meant e depth) type left) ≡ Ok t → HasParts t.0 → ResolvedTypeWants e type
behind_room e depth type (Ok left) t is some = level_wants e depth type left t is some
behind_room e depth type (Err fault) t is some = absurd (cc)

-- a type that has parts wanted memory
pub type_wants : (e : Env) (depth : ℕ) (type : TypeModel) (room : ℕ) (t : NamedModel × ℕ) → type_meant e depth type room ≡ Ok t → HasParts t.0 → ResolvedTypeWants e type
unfolding type_meant
type_wants e zero type room t is some = absurd (cc)
type_wants e (suc depth) type room t is some = behind_room e depth type (spent e room 1) t is some

-- arguments or results that were made had room
pub had_room : (e : Env) (groups : FieldList) (room : ℕ) (x : FieldsModel × ℕ) → whole_fields e groups room ≡ Ok x → IsOk (spent e room 1)
unfolding whole_fields
had_room e groups room x is = first_was_right (spent e room 1) (λ left. components_meant e (type_meant e most_depth) [] ([], left) (fields_from groups) >>= λ parts. sound e (record_shape parts.0) >>= λ _. Ok ((parts.0, record_shape parts.0), parts.1)) x is

-- a part that was made had room
pub part_had_room : (e : Env) (one : ℕ → Result (NamedModel × ℕ) NameFault) (room name : ℕ) (x : (List ℕ × NamedModel) × ℕ) → named_part e one room name ≡ Ok x → IsOk (spent e room 1)
unfolding named_part
part_had_room e one room name x is = first_was_right (spent e room 1) (λ left. one left >>= λ t. Ok ((name_text e.names name, t.0), t.1)) x is

-- ---- dependencies

last_test : {A : Type 0} (a b : Bool) (x : A) (e f : NameFault) → IsOk (cond a (Err e) (cond b (Ok x) (Err f))) → b ≡ true
last_test true b x e f right = absurd (cc)
last_test false true x e f right = refl
last_test false false x e f right = absurd (cc)

was_read : (names : List (List ℕ)) (before : List Program) (earlier : List Dependency) (d : Dependency) → IsOk (dependency_step names before earlier d) → is_some (program_by before d.number d.version) ≡ true
was_read names before earlier d right = last_test (is_some (dependency_of names earlier d.name)) (is_some (program_by before d.number d.version)) _ _ _ right

-- one of the dependencies was read, and so the first, if those in front were
pub first_was_read : (names : List (List ℕ)) (before : List Program) (earlier ds : List Dependency) (i : ℕ) (d : Dependency) → drop i ds ≡ d ∷ drop (i + 1) ds → (0 < i → FirstWasRead before ds)
    → IsOk (dependency_step names before earlier d) → FirstWasRead before ds
first_was_read names before earlier [] i d here first right = tt
first_was_read names before earlier (x ∷ ds) zero d here first right =
    let same : x ≡ d = cc in
    rw same (was_read names before earlier d right)
first_was_read names before earlier (x ∷ ds) (suc i) d here first right = first (omega arith)
