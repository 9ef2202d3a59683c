-- In all that a program declares, members and candidates have names of their own.
use Rattle.std.proofs.Common.{◌≡◌, ℕ, zero, suc, ◌-◌, Bool, true, false, cond, List, [], ◌∷◌, ◌++◌, Option, Some, None, Result, Ok, Err, refl, subst}
use Rattle.std.specs.List.{AllByRecursion, find}
use Rattle.courier_notation.specs.Failing.{◌>>=◌}
use Rattle.courier_notation.proofs.Failing.{bind_ok, ok_is, over_ok}
use Rattle.courier_notation.specs.declared.declared.Dependency.{Dependency}
use Rattle.courier_notation.specs.declared.written.Reference.{Reference}
use Rattle.courier_notation.specs.declared.written.Reference.TheVariants as references
use Rattle.courier_notation.specs.ProgramModels.{DeclaredModel, FieldList, ProgramModel}
use Rattle.courier_notation.specs.Written.{TypeModel, fields_from}
use Rattle.courier_texts.specs.Laws.{HaveNames, IsNamed}
use Rattle.courier_texts.specs.Named.{NamedModel, shape_of}
use Rattle.courier_programs.specs.declared.name_reason.NameReason.TheVariants as reasons
use Rattle.courier_programs.specs.declared.program.Program.{Program}
use Rattle.courier_programs.specs.Declarations.{Addition, adds_meaning, adds_procedure, adds_error, constant_meant, constant_value, declaration_meant, declaration_step, env_at, error_meant, is_type, most_depth, most_type_parts, once_meant, own_text, procedure_meant, record_shape, settled, sound, whole_fields, whole_type, with_addition}
use Rattle.courier_programs.specs.Laws.{AreFieldsNamed, AreTypesNamed, IsDeclared, IsErrorNamed, IsMeaningNamed, IsProcedureNamed}
use Rattle.courier_programs.specs.Meanings.{ResolvedError, FieldsModel, MeaningList, MeaningModel, ResolvedProcedure, ResolvedModel, components_from, meanings_seen, resolved_model}
use Rattle.courier_programs.specs.Faults.{NameFault, steps}
use Rattle.courier_programs.specs.Resolving.{dependency_step, empty_program, reports_step, resolved, with_dependencies, with_reports}
use Rattle.courier_programs.specs.Scopes.{Env, depended_upon, dependency_of, program_by, program_named, read_or_unknown, spent, name_text, type_named, word_of}
use Rattle.courier_programs.specs.Types.{array_meant, candidates_meant, choice_meant, components_meant, enumeration_meant, fields_meant, maximum_of, member_step, referred, sequence_meant, tag_members, type_level_meant, type_meant, variants_from}
use Rattle.courier_programs.proofs.Names.{type_is_declared}
use Rattle.courier_programs.proofs.TypesNamed.{FieldsIn, IsPlainIn, MakesAll, NamesIn, all_more, candidates_named, components_named, member_named, steps_keep}

-- ---- what is referred to

-- members and candidates in the programs that were read before have names of their own
abbrev pub AreBefore : List Program → Type 0
AreBefore before = AllByRecursion (λ b. AreTypesNamed (resolved_model b)) before

pub record IsEnvNamed (e : Env) : Type 0 where
  pub meanings : AllByRecursion (λ m. IsMeaningNamed m.1) e.meanings
  pub before : AreBefore e.before

one_of_all : {A : Type 0} (P : A → Type 0) (front : List A) (x : A) (back : List A) → AllByRecursion P (front ++ x ∷ back) → P x
one_of_all P [] x back all = all.0
one_of_all P (y ∷ front) x back all = one_of_all P front x back all.1

meaning_named : (ms : MeaningList) (name : List ℕ) (t : NamedModel) (size : ℕ) → AllByRecursion (λ m. IsMeaningNamed m.1) ms → IsDeclared ms name (MeaningModel.type t size) → IsNamed t
meaning_named ms name t size all d =
    one_of_all (λ m. IsMeaningNamed m.1) d.front (name, MeaningModel.type t size) d.back (subst (λ (xs : MeaningList). AllByRecursion (λ m. IsMeaningNamed m.1) xs) d.parts all)

found_at : (b : Bool) (P : Program → Type 0) (x : Program) (others : Option Program) (p : Program) → P x → (others ≡ Some p → P p) → cond b (Some x) others ≡ Some p → P p
found_at true P x others p here more is = let same : x ≡ p = cc in subst P same here
found_at false P x others p here more is = more is

found : (P : Program → Type 0) (test : Program → Bool) (ps : List Program) (p : Program) → AllByRecursion P ps → find test ps ≡ Some p → P p
found P test [] p all is = absurd (cc)
found P test (x ∷ ps) p all is = found_at (test x) P x (find test ps) p all.0 (found P test ps p all.1) is

was_read : (name : ℕ) (o : Option Program) (p : Program) → read_or_unknown name o ≡ Ok p → o ≡ Some p
was_read name (Some x) p is = cc
was_read name None p is = absurd (cc)

upon_named : (e : Env) (name : ℕ) (o : Option Dependency) (p : Program) → AreBefore e.before → depended_upon e name o ≡ Ok p → AreTypesNamed (resolved_model p)
upon_named e name (Some d) p before is =
    found (λ b. AreTypesNamed (resolved_model b)) _ e.before p before (was_read name (program_by e.before d.number d.version) p is)
upon_named e name None p before is = absurd (cc)

referred_named : (e : Env) → IsEnvNamed e → (r : Reference) (t : NamedModel × ℕ) → type_named e r ≡ Ok t → IsNamed t.0
unfolding program_named
referred_named e env (references.Own name) t is = meaning_named e.meanings (name_text e.names name) t.0 t.1 env.meanings (type_is_declared e (references.Own name) t is)
referred_named e env (references.Other program name) t is =
    let d = type_is_declared e (references.Other program name) t is in
    let named = upon_named e program (dependency_of e.names e.dependencies program) d.0 env.before d.1 in
    meaning_named (meanings_seen d.0.meanings.items) (name_text e.names name) t.0 t.1 named.meanings d.2

-- ---- types

simply : (n : NamedModel) (room : ℕ) (t : NamedModel × ℕ) → ◌≡◌ {A = Result (NamedModel × ℕ) NameFault} (Ok (n, room)) (Ok t) → IsNamed n → IsNamed t.0
simply n room t is named = subst (λ (x : NamedModel × ℕ). IsNamed x.0) (ok_is (n, room) t is) named

level_named : (e : Env) → IsEnvNamed e → (one : TypeModel → ℕ → Result (NamedModel × ℕ) NameFault) → MakesAll e.names one → (type : TypeModel) (room : ℕ) (t : NamedModel × ℕ) → type_level_meant e one type room ≡ Ok t → NamesIn e.names type → IsNamed t.0
unfolding type_level_meant enumeration_meant array_meant sequence_meant fields_meant choice_meant referred
level_named e env one makes (TypeModel.predefined type) room t is inside = simply (NamedModel.predefined type) room t is tt
level_named e env one makes (TypeModel.enumeration members) room t is inside =
    let x = over_ok NamedModel.enumeration (steps (member_step e) ([], room) members) t is in
    let have : HaveNames x.0.0 = steps_keep (λ s. HaveNames s.0) (λ m. IsPlainIn e.names m.0) (member_step e) (λ s m n step plain h. member_named e s m n step plain h) ([], room) members x.0 x.1 inside tt in
    subst (λ (n : NamedModel × ℕ). IsNamed n.0) x.2 have
level_named e env one makes (TypeModel.array count element) room t is inside =
    let n = bind_ok (word_of e count) _ t is in
    let x = over_ok (NamedModel.array n.0) (one element room) t n.2 in
    subst (λ (k : NamedModel × ℕ). IsNamed k.0) x.2 (makes element inside room x.0 x.1)
level_named e env one makes (TypeModel.sequence most element) room t is inside =
    let n = bind_ok (maximum_of e most) _ t is in
    let x = over_ok (NamedModel.sequence n.0) (one element room) t n.2 in
    subst (λ (k : NamedModel × ℕ). IsNamed k.0) x.2 (makes element inside room x.0 x.1)
level_named e env one makes (TypeModel.fields groups) room t is inside =
    let x = over_ok (λ all. NamedModel.components (components_from all)) (components_meant e one [] ([], room) groups) t is in
    subst (λ (k : NamedModel × ℕ). IsNamed k.0) x.2 (components_named e e.names one makes groups [] ([], room) x.0 x.1 inside tt)
level_named e env one makes (TypeModel.choice tag groups) room t is inside =
    let members = bind_ok (tag_members e tag) _ t is in
    let x = over_ok (λ all. NamedModel.choice (variants_from all)) (candidates_meant e members.0 one [] ([], room) groups) t members.2 in
    subst (λ (k : NamedModel × ℕ). IsNamed k.0) x.2 (candidates_named e members.0 one makes groups [] ([], room) x.0 x.1 inside tt refl tt)
level_named e env one makes (TypeModel.named r) room t is inside =
    let x = bind_ok (type_named e r) _ t is in
    let left = bind_ok (spent e room (x.0.1 - 1)) _ t x.2 in
    subst (λ (k : NamedModel × ℕ). IsNamed k.0) (ok_is (x.0.0, left.0) t left.2) (referred_named e env r x.0 x.1)

makes_all : (e : Env) → IsEnvNamed e → (depth : ℕ) → MakesAll e.names (type_meant e depth)
unfolding type_meant
makes_all e env zero type inside room t is = absurd (cc)
makes_all e env (suc depth) type inside room t is =
    let left = bind_ok (spent e room 1) _ t is in
    level_named e env (type_meant e depth) (makes_all e env depth) type left.0 t left.2 inside

whole_type_named : (e : Env) → IsEnvNamed e → (type : TypeModel) (room : ℕ) (t : NamedModel × ℕ) → whole_type e type room ≡ Ok t → NamesIn e.names type → IsNamed t.0
unfolding whole_type
whole_type_named e env type room t is inside =
    let x = bind_ok (type_meant e most_depth type room) _ t is in
    let checked = bind_ok (sound e (shape_of x.0.0)) _ t x.2 in
    subst (λ (k : NamedModel × ℕ). IsNamed k.0) (ok_is x.0 t checked.2) (makes_all e env most_depth type inside room x.0 x.1)

whole_fields_named : (e : Env) → IsEnvNamed e → (groups : FieldList) (room : ℕ) (t : FieldsModel × ℕ) → whole_fields e groups room ≡ Ok t → FieldsIn e.names (fields_from groups) → AreFieldsNamed t.0
unfolding whole_fields
whole_fields_named e env groups room t is inside =
    let left = bind_ok (spent e room 1) _ t is in
    let parts = bind_ok (components_meant e (type_meant e most_depth) [] ([], left.0) (fields_from groups)) _ t left.2 in
    let checked = bind_ok (sound e (record_shape parts.0.0)) _ t parts.2 in
    subst (λ (k : FieldsModel × ℕ). AreFieldsNamed k.0) (ok_is ((parts.0.0, record_shape parts.0.0), parts.0.1) t checked.2)
    (components_named e e.names (type_meant e most_depth) (makes_all e env most_depth) (fields_from groups) [] ([], left.0) parts.0 parts.1 inside tt)

-- ---- declarations

abbrev IsAdditionNamed : Addition → Type 0
IsAdditionNamed (adds_meaning m) = IsMeaningNamed m
IsAdditionNamed (adds_procedure q) = IsProcedureNamed q
IsAdditionNamed (adds_error r) = IsErrorNamed r

-- the names of members and candidates in what is declared are plain
abbrev pub DeclaredIn : List (List ℕ) → DeclaredModel → Type 0
DeclaredIn names (DeclaredModel.is_type type) = NamesIn names type
DeclaredIn names (DeclaredModel.is_constant type c) = Unit {0}
DeclaredIn names (DeclaredModel.is_procedure arguments results errors n) = FieldsIn names (fields_from arguments) × FieldsIn names (fields_from results)
DeclaredIn names (DeclaredModel.is_error arguments n) = FieldsIn names (fields_from arguments)

cond_ok : {A : Type 0} (b : Bool) (e : NameFault) (r : Result A NameFault) (t : A) → cond b (Err e) r ≡ Ok t → r ≡ Ok t
cond_ok true e r t is = absurd (cc)
cond_ok false e r t is = is

settled_named : (room : ℕ) (r : Result (NamedModel × ℕ) NameFault) (added : Addition × ℕ) → ((t : NamedModel × ℕ) → r ≡ Ok t → IsNamed t.0) → settled room r ≡ Ok added → IsAdditionNamed added.0
settled_named room (Ok t) added named is =
    subst (λ (a : Addition × ℕ). IsAdditionNamed a.0) (ok_is (adds_meaning (MeaningModel.type t.0 (room - t.1)), t.1) added is) (named t refl)
settled_named room (Err (name, reasons.Recursive)) added named is =
    subst (λ (a : Addition × ℕ). IsAdditionNamed a.0) (ok_is (adds_meaning MeaningModel.recursive, room) added is) tt
settled_named room (Err (name, reason)) added named is = absurd (cc)

added_named : (e : Env) → IsEnvNamed e → (p : ResolvedModel) (d : DeclaredModel) (room : ℕ) (added : Addition × ℕ) → declaration_meant e p d room ≡ Ok added → DeclaredIn e.names d → IsAdditionNamed added.0
unfolding declaration_meant constant_meant procedure_meant error_meant
added_named e env p (DeclaredModel.is_type type) room added is inside =
    settled_named room (whole_type e type room) added (λ t h. whole_type_named e env type room t h inside) is
added_named e env p (DeclaredModel.is_constant type c) room added is inside =
    let t = bind_ok (whole_type e type room) _ added is in
    let value = bind_ok (constant_value e c) _ added t.2 in
    subst (λ (a : Addition × ℕ). IsAdditionNamed a.0) (ok_is (adds_meaning (MeaningModel.constant value.0), t.0.1) added value.2) tt
added_named e env p (DeclaredModel.is_procedure arguments results errors n) room added is inside =
    let a = bind_ok (whole_fields e arguments room) _ added is in
    let r = bind_ok (whole_fields e results a.0.1) _ added a.2 in
    let q : ResolvedProcedure = record { name = own_text e; number = n; arguments = a.0.0; results = r.0.0 } in
    let last = cond_ok _ _ (Ok (adds_procedure q, r.0.1)) added r.2 in
    subst (λ (x : Addition × ℕ). IsAdditionNamed x.0) (ok_is (adds_procedure q, r.0.1) added last)
    (whole_fields_named e env arguments room a.0 a.1 inside.0, whole_fields_named e env results a.0.1 r.0 r.1 inside.1)
added_named e env p (DeclaredModel.is_error arguments n) room added is inside =
    let a = bind_ok (whole_fields e arguments room) _ added is in
    let r : ResolvedError = record { name = own_text e; number = n; arguments = a.0.0 } in
    let last = cond_ok _ _ (Ok (adds_error r, a.0.1)) added a.2 in
    subst (λ (x : Addition × ℕ). IsAdditionNamed x.0) (ok_is (adds_error r, a.0.1) added last) (whole_fields_named e env arguments room a.0 a.1 inside)

with_addition_named : (p : ResolvedModel) (name : List ℕ) (a : Addition) → AreTypesNamed p → IsAdditionNamed a → AreTypesNamed (with_addition p name a)
with_addition_named p name (adds_meaning m) named one = record {
  meanings = all_more (λ x. IsMeaningNamed x.1) p.meanings (name, m) named.meanings one;
  procedures = named.procedures;
  errors = named.errors;
}
with_addition_named p name (adds_procedure q) named one = record {
  meanings = all_more (λ x. IsMeaningNamed x.1) p.meanings (name, MeaningModel.procedure) named.meanings tt;
  procedures = all_more IsProcedureNamed p.procedures q named.procedures one;
  errors = named.errors;
}
with_addition_named p name (adds_error r) named one = record {
  meanings = all_more (λ x. IsMeaningNamed x.1) p.meanings (name, MeaningModel.error) named.meanings tt;
  procedures = named.procedures;
  errors = all_more IsErrorNamed p.errors r named.errors one;
}

-- ---- programs

step_named : (names : List (List ℕ)) (before : List Program) (dependencies : List Dependency) → AreBefore before → (st : ResolvedModel × ℕ) (d : ℕ × DeclaredModel) (next : ResolvedModel × ℕ)
    → declaration_step names before dependencies st d ≡ Ok next → DeclaredIn names d.1 → AreTypesNamed st.0 → AreTypesNamed next.0
unfolding declaration_step
step_named names before dependencies all st d next is inside named =
    let e = env_at names before dependencies st.0.meanings d.0 (is_type d.1) in
    let added = bind_ok (once_meant e st.0 d st.1) _ next is in
    let meant = cond_ok _ _ (declaration_meant e st.0 d.1 st.1) added.0 added.1 in
    let one = added_named e (record { meanings = named.meanings; before = all }) st.0 d.1 st.1 added.0 meant inside in
    subst (λ (n : ResolvedModel × ℕ). AreTypesNamed n.0) (ok_is _ next added.2) (with_addition_named st.0 (name_text names d.0) added.0.0 named one)

pub resolved_named : (names : List (List ℕ)) (before : List Program) (w : ProgramModel) (p : ResolvedModel) → resolved names before w ≡ Ok p → AreBefore before
    → AllByRecursion (λ d. DeclaredIn names d.1) w.declarations → AreTypesNamed p
unfolding resolved with_dependencies with_reports
resolved_named names before w p is all inside =
    let new = cond_ok _ _ (steps (dependency_step names before) [] w.dependencies >>= λ dependencies. with_dependencies names before dependencies w) p is in
    let dependencies = bind_ok (steps (dependency_step names before) [] w.dependencies) _ p new in
    let st = bind_ok (steps (declaration_step names before dependencies.0) (empty_program names w, most_type_parts) w.declarations) _ p dependencies.2 in
    let reported = bind_ok (steps (reports_step (env_at names before dependencies.0 st.0.0.meanings w.name false)) tt w.declarations) _ p st.2 in
    let empty : AreTypesNamed (empty_program names w) = record { meanings = tt; procedures = tt; errors = tt } in
    let named = steps_keep (λ s. AreTypesNamed s.0) (λ d. DeclaredIn names d.1) (declaration_step names before dependencies.0) (λ s d n step i k. step_named names before dependencies.0 all s d n step i k) (empty_program names w, most_type_parts) w.declarations st.0 st.1 inside empty in
    subst AreTypesNamed (ok_is st.0.0 p reported.2) named
