-- The names in tokens are plain, and so are those in the program that the tokens spell.
use Rattle.std.proofs.Common.{◌≡◌, inl, inr, ℕ, List, [], ◌∷◌, ◌++◌, sym, subst}
use Rattle.std.specs.List.{AllByRecursion}
use Rattle.courier_notation.specs.declared.token.Token.{Token}
use Rattle.courier_notation.specs.declared.token.Token.TheVariants as tokens
use Rattle.courier_notation.specs.ProgramModels.{DeclaredModel, FieldList, ProgramModel}
use Rattle.courier_notation.specs.ProgramSpelling.{SpellsArguments, SpellsDeclaration, SpellsDeclarations, SpellsDeclared, SpellsFields, SpellsProgram, SpellsResults, numbered}
use Rattle.courier_notation.specs.Spelling.{candidates_spelling, designator_spelling, fields_spelling, maximum_spelling, member_spelling, more_candidates_spelling, more_fields_spelling, more_spelling, name_spelling, numeric_spelling, parts_spelling, tag_spelling, type_spelling}
use Rattle.courier_notation.specs.Written.{CandidateModels, FieldModels, TypeModel, candidate_and, field_and, fields_from, no_candidates, no_fields}
use Rattle.courier_programs.proofs.ProgramsNamed.{DeclaredIn}
use Rattle.courier_programs.proofs.TypesNamed.{CandidatesIn, FieldsIn, IsPlainIn, NamesIn}

-- a name is plain
abbrev pub IsKnown : List (List ℕ) → Token → Type 0
IsKnown names (tokens.Name n) = IsPlainIn names n
IsKnown names _ = Unit {0}

abbrev pub AreKnown : List (List ℕ) → List Token → Type 0
AreKnown names ts = AllByRecursion (IsKnown names) ts

both : (names : List (List ℕ)) (xs ys : List Token) → AreKnown names (xs ++ ys) → AreKnown names xs × AreKnown names ys
both names [] ys all = (tt, all)
both names (x ∷ xs) ys all =
    let r = both names xs ys all.1 in
    ((all.0, r.0), r.1)

-- ---- types

more_in : {A : Type 0} (names : List (List ℕ)) (spell : A → List Token) (Good : A → Type 0) → ((x : A) → AreKnown names (spell x) → Good x) → (xs : List A) → AreKnown names (more_spelling spell xs) → AllByRecursion Good xs
more_in names spell Good one [] known = tt
more_in names spell Good one (x ∷ xs) known =
    let r = both names (spell x) (more_spelling spell xs) known.1 in
    (one x r.0, more_in names spell Good one xs r.1)

parts_in : {A : Type 0} (names : List (List ℕ)) (spell : A → List Token) (Good : A → Type 0) → ((x : A) → AreKnown names (spell x) → Good x) → (xs : List A) → AreKnown names (parts_spelling spell xs) → AllByRecursion Good xs
parts_in names spell Good one [] known = tt
parts_in names spell Good one (x ∷ xs) known =
    let r = both names (spell x) (more_spelling spell xs) known in
    (one x r.0, more_in names spell Good one xs r.1)

mutual
  types_in : (names : List (List ℕ)) (type : TypeModel) → AreKnown names (type_spelling type) → NamesIn names type
  types_in names (TypeModel.predefined type) known = tt
  types_in names (TypeModel.enumeration members) known =
      parts_in names member_spelling (λ m. IsPlainIn names m.0) (λ m k. k.0) members (both names (parts_spelling member_spelling members) (tokens.CloseBrace ∷ []) known.1).0
  types_in names (TypeModel.array n element) known = types_in names element (both names (numeric_spelling n) (tokens.Of ∷ type_spelling element) known.1).1.1
  types_in names (TypeModel.sequence most element) known = types_in names element (both names (maximum_spelling most) (tokens.Of ∷ type_spelling element) known.1).1.1
  types_in names (TypeModel.fields groups) known = fields_in names groups (both names (fields_spelling groups) (tokens.CloseBracket ∷ []) known.1.1).0
  types_in names (TypeModel.choice tag groups) known =
      let r = both names (tag_spelling tag ++ tokens.Of ∷ tokens.OpenBrace ∷ candidates_spelling groups) (tokens.CloseBrace ∷ []) known.1 in
      candidates_in names groups (both names (tag_spelling tag) (tokens.Of ∷ tokens.OpenBrace ∷ candidates_spelling groups) r.0).1.1.1
  types_in names (TypeModel.named r) known = tt

  fields_in : (names : List (List ℕ)) (groups : FieldModels) → AreKnown names (fields_spelling groups) → FieldsIn names groups
  fields_in names no_fields known = tt
  fields_in names (field_and ns type groups) known =
      let q = both names (parts_spelling name_spelling ns ++ tokens.Colon ∷ type_spelling type) (more_fields_spelling groups) known in
      let r = both names (parts_spelling name_spelling ns) (tokens.Colon ∷ type_spelling type) q.0 in
      (types_in names type r.1.1, more_fields_in names groups q.1)

  more_fields_in : (names : List (List ℕ)) (groups : FieldModels) → AreKnown names (more_fields_spelling groups) → FieldsIn names groups
  more_fields_in names no_fields known = tt
  more_fields_in names (field_and ns type groups) known =
      let q = both names (parts_spelling name_spelling ns ++ tokens.Colon ∷ type_spelling type) (more_fields_spelling groups) known.1 in
      let r = both names (parts_spelling name_spelling ns) (tokens.Colon ∷ type_spelling type) q.0 in
      (types_in names type r.1.1, more_fields_in names groups q.1)

  candidates_in : (names : List (List ℕ)) (groups : CandidateModels) → AreKnown names (candidates_spelling groups) → CandidatesIn names groups
  candidates_in names no_candidates known = tt
  candidates_in names (candidate_and designators type groups) known =
      let q = both names (parts_spelling designator_spelling designators ++ tokens.Arrow ∷ type_spelling type) (more_candidates_spelling groups) known in
      let r = both names (parts_spelling designator_spelling designators) (tokens.Arrow ∷ type_spelling type) q.0 in
      (parts_in names designator_spelling (λ d. IsPlainIn names d.0) (λ d k. k.0) designators r.0, types_in names type r.1.1, more_candidates_in names groups q.1)

  more_candidates_in : (names : List (List ℕ)) (groups : CandidateModels) → AreKnown names (more_candidates_spelling groups) → CandidatesIn names groups
  more_candidates_in names no_candidates known = tt
  more_candidates_in names (candidate_and designators type groups) known =
      let q = both names (parts_spelling designator_spelling designators ++ tokens.Arrow ∷ type_spelling type) (more_candidates_spelling groups) known.1 in
      let r = both names (parts_spelling designator_spelling designators) (tokens.Arrow ∷ type_spelling type) q.0 in
      (parts_in names designator_spelling (λ d. IsPlainIn names d.0) (λ d k. k.0) designators r.0, types_in names type r.1.1, more_candidates_in names groups q.1)

-- ---- declarations

record_in : (names : List (List ℕ)) (fields : FieldList) (text : List Token) → SpellsFields fields text → AreKnown names text → FieldsIn names (fields_from fields)
record_in names fields text s known =
    let k = subst (AreKnown names) s.2 known in
    fields_in names (fields_from fields) (both names (fields_spelling (fields_from fields)) (tokens.CloseBracket ∷ []) k.1).0

nothing_in : (names : List (List ℕ)) (fields : FieldList) → fields ≡ [] → FieldsIn names (fields_from fields)
nothing_in names fields none = subst (λ (fs : FieldList). FieldsIn names (fields_from fs)) (sym none) tt

arguments_in : (names : List (List ℕ)) (fields : FieldList) (text : List Token) → SpellsArguments fields text → AreKnown names text → FieldsIn names (fields_from fields)
arguments_in names fields text (inl s) known = nothing_in names fields s.0
arguments_in names fields text (inr s) known = record_in names fields text s known

results_in : (names : List (List ℕ)) (fields : FieldList) (text : List Token) → SpellsResults fields text → AreKnown names text → FieldsIn names (fields_from fields)
results_in names fields text (inl s) known = nothing_in names fields s.0
results_in names fields text (inr s) known =
    let k = subst (AreKnown names) s.1 known in
    record_in names fields s.0 s.2 k.1

declared_in : (names : List (List ℕ)) (d : DeclaredModel) (text : List Token) → SpellsDeclared d text → AreKnown names text → DeclaredIn names d
declared_in names (DeclaredModel.is_type type) text s known =
    let k = subst (AreKnown names) s.1 known in
    types_in names type k.1.1
declared_in names (DeclaredModel.is_constant type c) text s known = tt
declared_in names (DeclaredModel.is_procedure arguments results errors n) text s known =
    let k = subst (AreKnown names) s.7 known in
    let x = both names s.0 (s.1 ++ (s.2 ++ numbered n)) k.1 in
    let y = both names s.1 (s.2 ++ numbered n) x.1 in
    (arguments_in names arguments s.0 s.3 x.0, results_in names results s.1 s.4 y.0)
declared_in names (DeclaredModel.is_error arguments n) text s known =
    let k = subst (AreKnown names) s.3 known in
    let x = both names s.0 (numbered n) k.1 in
    arguments_in names arguments s.0 s.1 x.0

declaration_in : (names : List (List ℕ)) (d : ℕ × DeclaredModel) (text : List Token) → SpellsDeclaration d text → AreKnown names text → DeclaredIn names d.1
declaration_in names d text s known =
    let k = subst (AreKnown names) s.2 known in
    declared_in names d.1 s.0 s.1 (both names s.0 (tokens.Semicolon ∷ []) k.1.1).0

declarations_in : (names : List (List ℕ)) (ds : List (ℕ × DeclaredModel)) (text : List Token) → SpellsDeclarations ds text → AreKnown names text → AllByRecursion (λ d. DeclaredIn names d.1) ds
declarations_in names [] text s known = tt
declarations_in names (d ∷ ds) text s known =
    let k = both names s.0 s.1 (subst (AreKnown names) s.4 known) in
    (declaration_in names d s.0 s.2 k.0, declarations_in names ds s.1 s.3 k.1)

pub program_in : (names : List (List ℕ)) (ts : List Token) (w : ProgramModel) → SpellsProgram w ts → AreKnown names ts → AllByRecursion (λ d. DeclaredIn names d.1) w.declarations
program_in names ts w s known =
    let k = subst (AreKnown names) s.6 known in
    let x = both names s.0 (s.1 ++ tokens.End ∷ tokens.Dot ∷ []) k.1.1.1.1.1.1.1.1 in
    declarations_in names w.declarations s.1 s.3 (both names s.1 (tokens.End ∷ tokens.Dot ∷ []) x.1).0
