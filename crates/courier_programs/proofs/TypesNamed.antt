-- Members and candidates have names of their own, as they are made one after the other.
use Rattle.std.proofs.Common.{◌≡◌, ◌≢◌, ℕ, Bool, true, false, cond, List, [], ◌∷◌, ◌++◌, map, Option, Some, None, is_some, option_map, Result, Ok, Err, refl, sym, ap, subst, ◌∙◌, append_assoc}
use Rattle.std.proofs.lemmas.List.{append-nil}
use Rattle.std.proofs.lemmas.Slice.Eq.{bytes_eq-Decides}
use Rattle.std.specs.List.{AllByRecursion, find}
use Rattle.std.specs.Str.{bytes_eq}
use Rattle.courier_notation.proofs.Failing.{bind_ok, ok_is}
use Rattle.courier_notation.specs.declared.written.Numeric.{Numeric}
use Rattle.courier_notation.specs.Written.{TypeModel, FieldModels, no_fields, field_and, CandidateModels, no_candidates, candidate_and, Designator}
use Rattle.courier_texts.specs.Laws.{is_plain_name, NamesNoMember, HaveNames, NamesNoVariant, IsNamed, AreComponentsNamed, AreVariantsNamed}
use Rattle.courier_texts.specs.Named.{NamedModel}
use Rattle.courier_programs.specs.Meanings.{Components, components_from}
use Rattle.courier_programs.specs.Faults.{NameFault, steps}
use Rattle.courier_programs.specs.Scopes.{Env, spent, name_text}
use Rattle.courier_programs.specs.Types.{Candidates, Designators, Members, candidate_group, candidate_step, candidates_meant, component_step, components_meant, designator_step, designator_word, member_step, member_word, named_part, new_name, once, variants_from, word_by_name}

-- ---- steps

-- what each step keeps, all keep
pub steps_keep : {S A : Type 0} (P : S → Type 0) (Q : A → Type 0) (f : S → A → Result S NameFault) → ((s : S) (x : A) (t : S) → f s x ≡ Ok t → Q x → P s → P t)
    → (s : S) (xs : List A) (t : S) → steps f s xs ≡ Ok t → AllByRecursion Q xs → P s → P t
steps_keep P Q f one s [] t is each here = subst P (ok_is s t is) here
steps_keep P Q f one s (x ∷ xs) t is each here =
    let b = bind_ok (f s x) (λ n. steps f n xs) t is in
    steps_keep P Q f one b.0 xs t b.2 each.1 (one s x b.0 b.1 each.0 here)

-- ---- members

bytes_differ : (xs ys : List ℕ) → bytes_eq xs ys ≡ false → xs ≢ ys
bytes_differ xs ys h same =
    let eq : bytes_eq xs ys ≡ true = (bytes_eq-Decides xs ys).1 same in
    absurd (cc)

-- a member before has another name, and so have those behind it
other_names : (b : Bool) (m : List ℕ × ℕ) (ms : Members) (name : List ℕ) → bytes_eq m.0 name ≡ b → option_map (λ (x : List ℕ × ℕ). x.1) (cond b (Some m) (find (λ (x : List ℕ × ℕ). bytes_eq x.0 name) ms)) ≡ None
    → (m.0 ≢ name) × (word_by_name ms name ≡ None)
other_names true m ms name test h = absurd (cc)
other_names false m ms name test h = (bytes_differ m.0 name test, h)

no_member_more : (name : List ℕ) (ms : Members) (m : List ℕ × ℕ) → NamesNoMember name ms → name ≢ m.0 → NamesNoMember name (ms ++ m ∷ [])
no_member_more name [] m none other = (other, tt)
no_member_more name (n ∷ ms) m none other = (none.0, no_member_more name ms m none.1 other)

pub have_more : (ms : Members) (name : List ℕ) (word : ℕ) → HaveNames ms → is_plain_name name ≡ true → word_by_name ms name ≡ None → HaveNames (ms ++ (name, word) ∷ [])
have_more [] name word have plain none = (plain, tt, tt)
have_more (m ∷ ms) name word have plain none =
    let other = other_names (bytes_eq m.0 name) m ms name refl none in
    (have.0, no_member_more m.0 ms (name, word) have.1 other.0, have_more ms name word have.2 plain other.1)

abbrev fine : Result (Unit {0}) NameFault
fine = Ok tt

is_none_of : {A : Type 0} (o : Option A) (e : NameFault) → cond (is_some o) (Err e) fine ≡ fine → o ≡ None
is_none_of (Some x) e h = absurd (cc)
is_none_of None e h = refl

name_was_new : (e : Env) (ms : Members) (name : ℕ) → new_name e ms name ≡ Ok tt → word_by_name ms (name_text e.names name) ≡ None
name_was_new e ms name is = is_none_of (word_by_name ms (name_text e.names name)) _ is

-- the name is plain, as those of the notation are
abbrev pub IsPlainIn : List (List ℕ) → ℕ → Type 0
IsPlainIn names name = is_plain_name (name_text names name) ≡ true

-- the names of members and candidates in a type that is written are plain
abbrev mutual
  pub NamesIn : List (List ℕ) → TypeModel → Type 0
  NamesIn names (TypeModel.enumeration members) = AllByRecursion (λ m. IsPlainIn names m.0) members
  NamesIn names (TypeModel.array n element) = NamesIn names element
  NamesIn names (TypeModel.sequence most element) = NamesIn names element
  NamesIn names (TypeModel.fields groups) = FieldsIn names groups
  NamesIn names (TypeModel.choice tag groups) = CandidatesIn names groups
  NamesIn names _ = Unit {0}

  pub FieldsIn : List (List ℕ) → FieldModels → Type 0
  FieldsIn names no_fields = Unit {0}
  FieldsIn names (field_and ns type groups) = NamesIn names type × FieldsIn names groups

  pub CandidatesIn : List (List ℕ) → CandidateModels → Type 0
  CandidatesIn names no_candidates = Unit {0}
  CandidatesIn names (candidate_and designators type groups) =
      AllByRecursion (λ d. IsPlainIn names d.0) designators × NamesIn names type × CandidatesIn names groups

pub member_named : (e : Env) (st : Members × ℕ) (m : ℕ × Numeric) (next : Members × ℕ) → member_step e st m ≡ Ok next → IsPlainIn e.names m.0 → HaveNames st.0 → HaveNames next.0
unfolding member_step member_word
member_named e st m next is plain have =
    let room = bind_ok (spent e st.1 1) _ next is in
    let word = bind_ok (member_word e st.0 m) _ next room.2 in
    let new = bind_ok (new_name e st.0 m.0) _ word.0 word.1 in
    let none = name_was_new e st.0 m.0 new.1 in
    let more = have_more st.0 (name_text e.names m.0) word.0 have plain none in
    let same : (st.0 ++ (name_text e.names m.0, word.0) ∷ [], room.0) ≡ next = ok_is _ next word.2 in
    subst (λ (n : Members × ℕ). HaveNames n.0) same more

-- ---- components

components_more : (parts : Components) (name : List ℕ) (t : NamedModel) → AreComponentsNamed (components_from parts) → IsNamed t → AreComponentsNamed (components_from (parts ++ (name, t) ∷ []))
components_more [] name t named one = (one, tt)
components_more (p ∷ parts) name t named one = (named.0, components_more parts name t named.1 one)

-- what one makes is named
abbrev pub Makes : (ℕ → Result (NamedModel × ℕ) NameFault) → Type 0
Makes one = (room : ℕ) (t : NamedModel × ℕ) → one room ≡ Ok t → IsNamed t.0

abbrev pub MakesAll : List (List ℕ) → (TypeModel → ℕ → Result (NamedModel × ℕ) NameFault) → Type 0
MakesAll names one = (type : TypeModel) → NamesIn names type → Makes (one type)

-- a part that is made is of that name, and its type is named
part_named : (e : Env) (one : ℕ → Result (NamedModel × ℕ) NameFault) → Makes one → (room name : ℕ) (part : (List ℕ × NamedModel) × ℕ) → named_part e one room name ≡ Ok part
    → IsNamed part.0.1 × (name_text e.names name ≡ part.0.0)
unfolding named_part
part_named e one makes room name part is =
    let left = bind_ok (spent e room 1) _ part is in
    let t = bind_ok (one left.0) _ part left.2 in
    let same : ((name_text e.names name, t.0.0), t.0.1) ≡ part = ok_is _ part t.2 in
    subst (λ (p : (List ℕ × NamedModel) × ℕ). IsNamed p.0.1 × (name_text e.names name ≡ p.0.0)) same (makes left.0 t.0 t.1, refl)

component_named : (e : Env) (one : ℕ → Result (NamedModel × ℕ) NameFault) → Makes one → (st : Components × ℕ) (name : ℕ) (next : Components × ℕ) → component_step e one st name ≡ Ok next
    → AreComponentsNamed (components_from st.0) → AreComponentsNamed (components_from next.0)
unfolding component_step
component_named e one makes st name next is named =
    let part = bind_ok (named_part e one st.1 name) _ next is in
    let made = part_named e one makes st.1 name part.0 part.1 in
    let more = components_more st.0 part.0.0.0 part.0.0.1 named made.0 in
    subst (λ (n : Components × ℕ). AreComponentsNamed (components_from n.0)) (ok_is _ next part.2) more

all_units : {A : Type 0} (xs : List A) → AllByRecursion (λ _. Unit {0}) xs
all_units [] = tt
all_units (x ∷ xs) = (tt, all_units xs)

pub components_named : (e : Env) (names : List (List ℕ)) (one : TypeModel → ℕ → Result (NamedModel × ℕ) NameFault) → MakesAll names one → (groups : FieldModels) (seen : List ℕ) (st next : Components × ℕ)
    → components_meant e one seen st groups ≡ Ok next → FieldsIn names groups → AreComponentsNamed (components_from st.0) → AreComponentsNamed (components_from next.0)
unfolding components_meant
components_named e names one makes no_fields seen st next is inside named = subst (λ (n : Components × ℕ). AreComponentsNamed (components_from n.0)) (ok_is st next is) named
components_named e names one makes (field_and ns type groups) seen st next is inside named =
    let all = bind_ok (steps (once e) seen ns) _ next is in
    let parts = bind_ok (steps (component_step e (one type)) st ns) _ next all.2 in
    let here = steps_keep (λ s. AreComponentsNamed (components_from s.0)) (λ _. Unit {0}) (component_step e (one type)) (λ s x t step _ k. component_named e (one type) (makes type inside.0) s x t step k) st ns parts.0 parts.1 (all_units ns) named in
    components_named e names one makes groups all.0 parts.0 next parts.2 inside.1 here

-- ---- candidates

abbrev member_names : Members → List (List ℕ)
member_names ms = map (λ m. m.0) ms

abbrev candidate_names : Candidates → List (List ℕ)
candidate_names cs = map (λ c. c.0) cs

abbrev chosen_names : Env → List (ℕ × ℕ) → List (List ℕ)
chosen_names e ds = map (λ d. name_text e.names d.0) ds

abbrev AreMade : Candidates → Type 0
AreMade cs = AllByRecursion (λ c. IsNamed c.1.1) cs

map_more : {A B : Type 0} (f : A → B) (xs : List A) (x : A) → map f (xs ++ x ∷ []) ≡ map f xs ++ f x ∷ []
map_more f [] x = refl
map_more {B = B} f (y ∷ xs) x = ap (λ (ys : List B). f y ∷ ys) (map_more f xs x)

pub all_more : {A : Type 0} (P : A → Type 0) (xs : List A) (x : A) → AllByRecursion P xs → P x → AllByRecursion P (xs ++ x ∷ [])
all_more P [] x all p = (p, tt)
all_more P (y ∷ xs) x all p = (all.0, all_more P xs x all.1 p)

no_variant_named : (name : List ℕ) (cs : Candidates) (ms : Members) → member_names ms ≡ candidate_names cs → NamesNoMember name ms → NamesNoVariant name (variants_from cs)
no_variant_named name [] ms same none = tt
no_variant_named name (c ∷ cs) [] same none = absurd (cc)
no_variant_named name (c ∷ cs) (m ∷ ms) same none =
    let first : m.0 ≡ c.0 = cc in
    let others : member_names ms ≡ candidate_names cs = cc in
    ((λ e. none.0 (e ∙ sym first)), no_variant_named name cs ms others none.1)

variants_named : (cs : Candidates) (ms : Members) → member_names ms ≡ candidate_names cs → HaveNames ms → AreMade cs → AreVariantsNamed (variants_from cs)
variants_named [] ms same have made = tt
variants_named (c ∷ cs) [] same have made = absurd (cc)
variants_named (c ∷ cs) (m ∷ ms) same have made =
    let first : m.0 ≡ c.0 = cc in
    let others : member_names ms ≡ candidate_names cs = cc in
    let plain : is_plain_name c.0 ≡ true = rw first at have.0 in
    let none : NamesNoMember c.0 ms = rw first at have.1 in
    (plain, no_variant_named c.0 cs ms others none, made.0, variants_named cs ms others have.2 made.1)

-- members that were taken have names, and these are the candidates' and those that were just chosen
record AreTaken (e : Env) (front : List (List ℕ)) (st : Designators) : Type 0 where
  have : HaveNames st.0
  names : member_names st.0 ≡ front ++ chosen_names e st.1

designator_named : (e : Env) (tag : Option Members) (front : List (List ℕ)) (st : Designators) (d : Designator) (next : Designators) → designator_step e tag st d ≡ Ok next → IsPlainIn e.names d.0
    → AreTaken e front st → AreTaken e front next
unfolding designator_step designator_word
designator_named e tag front st d next is plain taken =
    let word = bind_ok (designator_word e tag st.0 d) _ next is in
    let new = bind_ok (new_name e st.0 d.0) _ word.0 word.1 in
    let none = name_was_new e st.0 d.0 new.1 in
    let name = name_text e.names d.0 in
    let next_is : (st.0 ++ (name, word.0) ∷ [], st.1 ++ (d.0, word.0) ∷ []) ≡ next = ok_is _ next word.2 in
    let behind : member_names (st.0 ++ (name, word.0) ∷ []) ≡ front ++ chosen_names e (st.1 ++ (d.0, word.0) ∷ []) =
    map_more (λ m. m.0) st.0 (name, word.0) ∙ ap (λ (ns : List (List ℕ)). ns ++ name ∷ []) taken.names
    ∙ append_assoc front (chosen_names e st.1) (name ∷ []) ∙ ap (λ (ns : List (List ℕ)). front ++ ns) (sym (map_more (λ x. name_text e.names x.0) st.1 (d.0, word.0))) in
    subst (AreTaken e front) next_is (record { have = have_more st.0 name word.0 taken.have plain none; names = behind })

candidates_named_as : (e : Env) (one : ℕ → Result (NamedModel × ℕ) NameFault) → Makes one → (chosen : List (ℕ × ℕ)) (st next : Candidates × ℕ) → steps (candidate_step e one) st chosen ≡ Ok next → AreMade st.0
    → AreMade next.0 × (candidate_names next.0 ≡ candidate_names st.0 ++ chosen_names e chosen)
unfolding candidate_step
candidates_named_as e one makes [] st next is made =
    let same = ok_is st next is in
    subst (λ (n : Candidates × ℕ). AreMade n.0 × (candidate_names n.0 ≡ candidate_names st.0 ++ [])) same (made, sym (append-nil (candidate_names st.0)))
candidates_named_as e one makes (d ∷ chosen) st next is made =
    let step = bind_ok (candidate_step e one st d) _ next is in
    let part = bind_ok (named_part e one st.1 d.0) _ step.0 step.1 in
    let one_made = part_named e one makes st.1 d.0 part.0 part.1 in
    let name = name_text e.names d.0 in
    let same : (st.0 ++ (part.0.0.0, (d.1, part.0.0.1)) ∷ [], part.0.1) ≡ step.0 = ok_is _ step.0 part.2 in
    let here : AreMade step.0.0 = subst (λ (n : Candidates × ℕ). AreMade n.0) same (all_more (λ c. IsNamed c.1.1) st.0 (part.0.0.0, (d.1, part.0.0.1)) made one_made.0) in
    let put : candidate_names (st.0 ++ (part.0.0.0, (d.1, part.0.0.1)) ∷ []) ≡ candidate_names st.0 ++ name ∷ [] =
    map_more (λ c. c.0) st.0 (part.0.0.0, (d.1, part.0.0.1)) ∙ ap (λ (n : List ℕ). candidate_names st.0 ++ n ∷ []) (sym one_made.1) in
    let named : candidate_names step.0.0 ≡ candidate_names st.0 ++ name ∷ [] = subst (λ (n : Candidates × ℕ). candidate_names n.0 ≡ candidate_names st.0 ++ name ∷ []) same put in
    let more = candidates_named_as e one makes chosen step.0 next step.2 here in
    (more.0, more.1 ∙ ap (λ (ns : List (List ℕ)). ns ++ chosen_names e chosen) named ∙ append_assoc (candidate_names st.0) (name ∷ []) (chosen_names e chosen))

pub candidates_named : (e : Env) (tag : Option Members) (one : TypeModel → ℕ → Result (NamedModel × ℕ) NameFault) → MakesAll e.names one → (groups : CandidateModels) (taken : Members) (st next : Candidates × ℕ)
    → candidates_meant e tag one taken st groups ≡ Ok next → CandidatesIn e.names groups → HaveNames taken → member_names taken ≡ candidate_names st.0 → AreMade st.0 → AreVariantsNamed (variants_from next.0)
unfolding candidates_meant candidate_group
candidates_named e tag one makes no_candidates taken st next is inside have same made =
    subst (λ (n : Candidates × ℕ). AreVariantsNamed (variants_from n.0)) (ok_is st next is) (variants_named st.0 taken same have made)
candidates_named e tag one makes (candidate_and designators type groups) taken st next is inside have same made =
    let group = bind_ok (candidate_group e tag (one type) taken st designators) _ next is in
    let ds = bind_ok (steps (designator_step e tag) (taken, []) designators) _ group.0 group.1 in
    let cs = bind_ok (steps (candidate_step e (one type)) st ds.0.1) _ group.0 ds.2 in
    let start : AreTaken e (candidate_names st.0) (taken, []) = record { have = have; names = same ∙ sym (append-nil (candidate_names st.0)) } in
    let took = steps_keep (AreTaken e (candidate_names st.0)) (λ d. IsPlainIn e.names d.0) (designator_step e tag) (λ s d t step plain k. designator_named e tag (candidate_names st.0) s d t step plain k) (taken, []) designators ds.0 ds.1 inside.0 start in
    let made_all = candidates_named_as e (one type) (makes type inside.1) ds.0.1 st cs.0 cs.1 made in
    let group_is : (ds.0.0, cs.0) ≡ group.0 = ok_is _ group.0 cs.2 in
    let rest : candidates_meant e tag one ds.0.0 cs.0 groups ≡ Ok next = subst (λ (g : Members × (Candidates × ℕ)). candidates_meant e tag one g.0 g.1 groups ≡ Ok next) (sym group_is) group.2 in
    candidates_named e tag one makes groups ds.0.0 cs.0 next rest inside.2 took.have (took.names ∙ sym made_all.1) made_all.0
