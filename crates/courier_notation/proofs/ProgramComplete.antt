-- Tokens that spell a program are read as that program.
use Rattle.std.proofs.Common.{◌≡◌, ◌⊎◌, ℕ, zero, suc, ◌<◌, ◌≤◌, true, false, List, [], ◌∷◌, ◌++◌, length, None, Ok, refl, sym, ap, ◌∙◌, append_assoc, arith, inl, inr}
use Rattle.std.specs.List.{AllByRecursion}
use Rattle.courier_notation.specs.declared.declared.Constant.{Constant}
use Rattle.courier_notation.specs.declared.declared.Dependency.{Dependency}
use Rattle.courier_notation.specs.declared.reason.Reason.{Reason}
use Rattle.courier_notation.specs.declared.reason.Reason.TheVariants as reasons
use Rattle.courier_notation.specs.declared.token.Token.{Token}
use Rattle.courier_notation.specs.declared.token.Token.TheVariants as tokens
use Rattle.courier_notation.specs.declared.written.Reference.{Reference}
use Rattle.courier_notation.specs.declared.written.Reference.TheVariants as references
use Rattle.courier_notation.specs.Written.{TypeModel}
use Rattle.courier_notation.specs.ProgramModels.{DeclaredModel, FieldList, ProgramModel}
use Rattle.courier_notation.specs.Reading.{Reader, behind_comma, behind_first, by_name, enclosed, in_parentheses, fields_at, fields_behind, nested, optional, token_at, type_at, type_behind}
use Rattle.courier_notation.specs.Programs.{most_depth, small_at, constant_at, arguments_at, results_at, reference_at, reports_at}
use Rattle.courier_notation.specs.Programs.{procedure_behind, error_behind, type_declared, constant_declared, declared_at, declaration_at, is_end, most_declarations, declarations_at, dependency_at, dependencies_at, header_at, body_at, program_with, program_of}
use Rattle.courier_notation.specs.Spelling.{reference_spelling, parts_spelling, type_spelling, is_apart, AreParts}
use Rattle.courier_notation.specs.ProgramSpelling.{SpellsFields, SaysNothing, SpellsArguments, SpellsResults, SpellsReports, numbered, SpellsDeclared, SpellsDeclaration, SpellsDeclarations, dependency_spelling, IsDependency, SpellsDependencies, SpellsProgram}
use Rattle.courier_notation.proofs.Takes.{Any, done}
use Rattle.courier_notation.proofs.Groups.{any_all}
use Rattle.courier_notation.proofs.Complete.{got, own_read, fields_read, IsComplete, small_word, some_read, type_read}
use Rattle.courier_notation.proofs.ConstantRead.{constant_read}

small_read : (n : ℕ) (ts : List Token) → n < 65536 → small_at (tokens.Number n ∷ ts) ≡ got n ts
unfolding small_at
small_read n ts lt = small_word n ts lt

-- ---- components

components_read : (fs : FieldList) (text rest : List Token) → SpellsFields fs text → fields_at (type_at most_depth) (text ++ rest) ≡ got fs rest
components_read fs text rest s = ap (λ (t : List Token). fields_at (type_at most_depth) (t ++ rest)) s.2 ∙ fields_read most_depth (type_read most_depth) fs rest s.0 s.1

-- ---- what stands first

-- nothing is read where nothing is said
nothing_read : {A : Type 0} (one : Reader (List A)) (xs : List A) (text rest : List Token) → SaysNothing xs text → one rest ≡ got [] rest → one (text ++ rest) ≡ got xs rest
nothing_read {A} one xs text rest s none = ap (λ (t : List Token). one (t ++ rest)) s.1 ∙ none ∙ ap (λ (found : List A). got found rest) (sym s.0)

-- what a token announces is read, or nothing
optional_read : {A : Type 0} (first : Token) (one : Reader (List A)) (Says : List A → List Token → Type 0) → ((xs : List A) (text rest : List Token) → Says xs text → optional first one (text ++ rest) ≡ got xs rest)
    → (xs : List A) (text rest : List Token) → SaysNothing xs text ⊎ Says xs text → behind_first first rest ≡ None → optional first one (text ++ rest) ≡ got xs rest
unfolding optional
optional_read first one Says said xs text rest (inl s) none = nothing_read (optional first one) xs text rest s (rw none refl)
optional_read first one Says said xs text rest (inr s) none = said xs text rest s

reports_pass : (first : Token) → ((ts : List Token) → behind_first first (tokens.Reports ∷ ts) ≡ None) → (errors : List Reference) (text rest : List Token) → SpellsReports errors text → behind_first first rest ≡ None → behind_first first (text ++ rest) ≡ None
reports_pass first p errors text rest (inl s) h = ap (λ (t : List Token). behind_first first (t ++ rest)) s.1 ∙ h
reports_pass first p errors text rest (inr s) h = ap (λ (t : List Token). behind_first first (t ++ rest)) s.1 ∙ p _

results_pass : (first : Token) → ((ts : List Token) → behind_first first (tokens.Returns ∷ ts) ≡ None) → (fs : FieldList) (text rest : List Token) → SpellsResults fs text → behind_first first rest ≡ None → behind_first first (text ++ rest) ≡ None
results_pass first p fs text rest (inl s) h = ap (λ (t : List Token). behind_first first (t ++ rest)) s.1 ∙ h
results_pass first p fs text rest (inr s) h = ap (λ (t : List Token). behind_first first (t ++ rest)) s.1 ∙ p _

some_arguments : (fs : FieldList) (text rest : List Token) → SpellsFields fs text → arguments_at (text ++ rest) ≡ got fs rest
unfolding optional fields_at
some_arguments fs text rest s = ap (λ (t : List Token). arguments_at (t ++ rest)) s.2 ∙ fields_read most_depth (type_read most_depth) fs rest s.0 s.1

arguments_read : (fs : FieldList) (text rest : List Token) → SpellsArguments fs text → behind_first tokens.OpenBracket rest ≡ None → arguments_at (text ++ rest) ≡ got fs rest
arguments_read = optional_read tokens.OpenBracket (fields_behind (type_at most_depth)) SpellsFields some_arguments

some_results : (fs : FieldList) (text rest : List Token) → (inside : List Token) × (text ≡ tokens.Returns ∷ inside) × SpellsFields fs inside → results_at (text ++ rest) ≡ got fs rest
unfolding optional
some_results fs text rest s = ap (λ (t : List Token). results_at (t ++ rest)) s.1 ∙ components_read fs s.0 rest s.2

results_read : (fs : FieldList) (text rest : List Token) → SpellsResults fs text → behind_first tokens.Returns rest ≡ None → results_at (text ++ rest) ≡ got fs rest
results_read = optional_read tokens.Returns (fields_at (type_at most_depth)) (λ fs text. (inside : List Token) × (text ≡ tokens.Returns ∷ inside) × SpellsFields fs inside) some_results

whole_read : IsComplete reference_spelling Any reference_at
unfolding by_name
whole_read (references.Own n) rest good apart = own_read n rest apart
whole_read (references.Other p n) rest good apart = refl

-- parts, with the opening and the closing token
enclosed_read : {A : Type 0} (spell : A → List Token) (Good : A → Type 0) (one : Reader A) → IsComplete spell Good one → (opening closing : Token) (no_opening no_closing : Reason) → ((ts : List Token) → token_at opening no_opening (opening ∷ ts) ≡ done ts)
    → ((ts : List Token) → token_at closing no_closing (closing ∷ ts) ≡ done ts) → ((ts : List Token) → is_apart (closing ∷ ts) ≡ true) → ((ts : List Token) → behind_comma (closing ∷ ts) ≡ None) → (xs : List A) (rest : List Token) → AreParts xs → AllByRecursion Good xs
    → enclosed (opening, no_opening) (closing, no_closing) one (opening ∷ ((parts_spelling spell xs ++ closing ∷ []) ++ rest)) ≡ got xs rest
unfolding enclosed
enclosed_read spell Good one complete opening closing no_opening no_closing opens closes apart comma xs rest parts good =
    let after = closing ∷ rest in
    rw (opens ((parts_spelling spell xs ++ closing ∷ []) ++ rest), append_assoc (parts_spelling spell xs) (closing ∷ []) rest, some_read spell Good one complete xs after parts good (apart rest) (comma rest), closes rest) refl

some_reports : (errors : List Reference) (text rest : List Token) → AreParts errors × (text ≡ tokens.Reports ∷ tokens.OpenBracket ∷ (parts_spelling reference_spelling errors ++ tokens.CloseBracket ∷ [])) → reports_at (text ++ rest) ≡ got errors rest
unfolding optional
some_reports errors text rest s =
    ap (λ (t : List Token). reports_at (t ++ rest)) s.1 ∙ enclosed_read reference_spelling Any reference_at whole_read tokens.OpenBracket tokens.CloseBracket reasons.NoOpenBracket reasons.NoCloseBracket (λ ts. refl) (λ ts. refl) (λ ts. refl) (λ ts. refl) errors rest s.0 (any_all errors)

reports_read : (errors : List Reference) (text rest : List Token) → SpellsReports errors text → behind_first tokens.Reports rest ≡ None → reports_at (text ++ rest) ≡ got errors rest
reports_read = optional_read tokens.Reports (enclosed (tokens.OpenBracket, reasons.NoOpenBracket) (tokens.CloseBracket, reasons.NoCloseBracket) reference_at) _ some_reports

-- ---- declarations

procedure_step : (ts : List Token) (arguments results : FieldList) (errors : List Reference) (n : ℕ) (t1 t2 rest : List Token) → n < 65536
    → arguments_at ts ≡ got arguments t1 → results_at t1 ≡ got results t2 → reports_at t2 ≡ got errors (numbered n ++ rest) → procedure_behind ts ≡ got (DeclaredModel.is_procedure arguments results errors n) rest
unfolding procedure_behind
procedure_step ts arguments results errors n t1 t2 rest lt e f g = rw (e, f, g, small_read n rest lt) refl

error_step : (ts : List Token) (arguments : FieldList) (n : ℕ) (rest : List Token) → n < 65536 → arguments_at ts ≡ got arguments (numbered n ++ rest) → error_behind ts ≡ got (DeclaredModel.is_error arguments n) rest
unfolding error_behind
error_step ts arguments n rest lt e = rw (e, small_read n rest lt) refl

type_step : (type : TypeModel) (ts rest : List Token) → type_at most_depth ts ≡ got type rest → type_declared (tokens.Equal ∷ ts) ≡ got (DeclaredModel.is_type type) rest
unfolding type_declared
type_step type ts rest e = rw e refl

constant_step : (type : TypeModel) (c : Constant) (ts value rest : List Token) → type_at most_depth ts ≡ got type (tokens.Equal ∷ value) → constant_at most_depth value ≡ got c rest → constant_declared ts ≡ got (DeclaredModel.is_constant type c) rest
unfolding constant_declared
constant_step type c ts value rest e f = rw (e, f) refl

-- a type begins with no word of another declaration
constant_first : (ts : List Token) {x : TypeModel × List Token} → type_at most_depth ts ≡ Ok x → declared_at ts ≡ constant_declared ts
unfolding declared_at nested type_behind
constant_first (tokens.Type ∷ ts) e = absurd cc
constant_first (tokens.Procedure ∷ ts) e = absurd cc
constant_first (tokens.Error ∷ ts) e = absurd cc
constant_first ts e = refl

-- what stands behind the arguments and the results of a procedure
ending : (n : ℕ) (z rest : List Token) (errors : List Reference) (first : Token) → ((ts : List Token) → behind_first first (tokens.Reports ∷ ts) ≡ None) → ((ts : List Token) → behind_first first (tokens.Equal ∷ ts) ≡ None) → SpellsReports errors z → behind_first first (z ++ (numbered n ++ rest)) ≡ None
ending n z rest errors first p q s = reports_pass first p errors z (numbered n ++ rest) s (q (tokens.Number n ∷ rest))

procedure_read : (arguments results : FieldList) (errors : List Reference) (n : ℕ) (x y z rest : List Token) → SpellsArguments arguments x → SpellsResults results y → SpellsReports errors z → n < 65536
    → procedure_behind (x ++ (y ++ (z ++ (numbered n ++ rest)))) ≡ got (DeclaredModel.is_procedure arguments results errors n) rest
procedure_read arguments results errors n x y z rest a r e lt =
    let t2 = z ++ (numbered n ++ rest) in
    let t1 = y ++ t2 in
    let no_bracket = results_pass tokens.OpenBracket (λ ts. refl) results y t2 r (ending n z rest errors tokens.OpenBracket (λ ts. refl) (λ ts. refl) e) in
    procedure_step (x ++ t1) arguments results errors n t1 t2 rest lt
    (arguments_read arguments x t1 a no_bracket)
    (results_read results y t2 r (ending n z rest errors tokens.Returns (λ ts. refl) (λ ts. refl) e))
    (reports_read errors z (numbered n ++ rest) e refl)

-- what ends a declaration
abbrev ended : List Token → List Token
ended rest = tokens.Semicolon ∷ rest

declared_read : (d : DeclaredModel) (text rest : List Token) → SpellsDeclared d text → declared_at (text ++ ended rest) ≡ got d (ended rest)
unfolding declared_at
declared_read (DeclaredModel.is_type type) text rest s =
    ap (λ (t : List Token). declared_at (t ++ ended rest)) s.1
    ∙ type_step type (type_spelling type ++ ended rest) (ended rest) (type_read most_depth type (ended rest) s.0 refl)
declared_read (DeclaredModel.is_constant type c) text rest s =
    let value = s.0 ++ ended rest in
    let read = type_read most_depth type (tokens.Equal ∷ value) s.1 refl in
    let regrouped : text ++ ended rest ≡ type_spelling type ++ tokens.Equal ∷ value = ap (λ (t : List Token). t ++ ended rest) s.3 ∙ append_assoc (type_spelling type) (tokens.Equal ∷ s.0) (ended rest) in
    ap declared_at regrouped ∙ constant_first (type_spelling type ++ tokens.Equal ∷ value) read
    ∙ constant_step type c (type_spelling type ++ tokens.Equal ∷ value) value (ended rest) read (constant_read s.2 (ended rest) refl)
declared_read (DeclaredModel.is_procedure arguments results errors n) text rest s =
    let whole = s.0 ++ (s.1 ++ (s.2 ++ (numbered n ++ ended rest))) in
    let inside : (s.0 ++ (s.1 ++ (s.2 ++ numbered n))) ++ ended rest ≡ whole = simp append_assoc in
    let regrouped : text ++ ended rest ≡ tokens.Procedure ∷ whole = ap (λ (t : List Token). t ++ ended rest) s.7 ∙ ap (λ (t : List Token). tokens.Procedure ∷ t) inside in
    ap declared_at regrouped
    ∙ procedure_read arguments results errors n s.0 s.1 s.2 (ended rest) s.3 s.4 s.5 s.6
declared_read (DeclaredModel.is_error arguments n) text rest s =
    let whole = s.0 ++ (numbered n ++ ended rest) in
    let inside : (s.0 ++ numbered n) ++ ended rest ≡ whole = append_assoc s.0 (numbered n) (ended rest) in
    let regrouped : text ++ ended rest ≡ tokens.Error ∷ whole = ap (λ (t : List Token). t ++ ended rest) s.3 ∙ ap (λ (t : List Token). tokens.Error ∷ t) inside in
    ap declared_at regrouped
    ∙ error_step whole arguments n (ended rest) s.2 (arguments_read arguments s.0 (numbered n ++ ended rest) s.1 refl)

abbrev Named : Type 0
Named = ℕ × DeclaredModel

declaration_step : (n : ℕ) (d : DeclaredModel) (ts rest : List Token) → declared_at ts ≡ got d (ended rest) → declaration_at (tokens.Name n ∷ tokens.Colon ∷ ts) ≡ got (n, d) rest
unfolding declaration_at
declaration_step n d ts rest e = rw e refl

declaration_read : (d : Named) (text rest : List Token) → SpellsDeclaration d text → (inside : List Token) × (text ++ rest ≡ tokens.Name d.0 ∷ inside) × (declaration_at (text ++ rest) ≡ got d rest)
declaration_read d text rest s =
    let inside = tokens.Colon ∷ (s.0 ++ ended rest) in
    let regrouped : text ++ rest ≡ tokens.Name d.0 ∷ inside =
    ap (λ (t : List Token). t ++ rest) s.2 ∙ ap (λ (t : List Token). tokens.Name d.0 ∷ tokens.Colon ∷ t) (append_assoc s.0 (tokens.Semicolon ∷ []) rest) in
    (inside, regrouped, ap declaration_at regrouped ∙ declaration_step d.0 d.1 (s.0 ++ ended rest) rest (declared_read d.1 s.0 rest s.1))

declarations_step : (most n : ℕ) (d : Named) (ds : List Named) (ts inside after rest : List Token) → ts ≡ tokens.Name n ∷ inside → declaration_at ts ≡ got d after → declarations_at most after ≡ got ds rest → declarations_at (suc most) ts ≡ got (d ∷ ds) rest
unfolding declarations_at
declarations_step most n d ds ts inside after rest named e f =
    let first : is_end ts ≡ false = ap is_end named in
    rw (first, e, f) refl

declarations_end : (most : ℕ) (rest : List Token) → declarations_at most (tokens.End ∷ rest) ≡ got [] (tokens.End ∷ rest)
unfolding declarations_at
declarations_end zero rest = refl
declarations_end (suc most) rest = refl

declarations_read : (most : ℕ) (ds : List Named) (text rest : List Token) → length ds ≤ most → SpellsDeclarations ds text → declarations_at most (text ++ tokens.End ∷ rest) ≡ got ds (tokens.End ∷ rest)
declarations_read most [] text rest few s = ap (λ (t : List Token). declarations_at most (t ++ tokens.End ∷ rest)) s ∙ declarations_end most rest
declarations_read zero (d ∷ ds) text rest few s = absurd (omega arith)
declarations_read (suc most) (d ∷ ds) text rest few s =
    let after = s.1 ++ tokens.End ∷ rest in
    let r = declaration_read d s.0 after s.2 in
    let regrouped : text ++ tokens.End ∷ rest ≡ s.0 ++ after = ap (λ (t : List Token). t ++ tokens.End ∷ rest) s.4 ∙ append_assoc s.0 s.1 (tokens.End ∷ rest) in
    ap (declarations_at (suc most)) regrouped
    ∙ declarations_step most d.0 d ds (s.0 ++ after) r.0 after (tokens.End ∷ rest) r.1 r.2 (declarations_read most ds s.1 rest (omega arith) s.3)

-- ---- programs

dependency_read : IsComplete dependency_spelling IsDependency dependency_at
unfolding dependency_at in_parentheses
dependency_read d rest good apart = rw (small_read d.version rest good) refl

some_dependencies : (ds : List Dependency) (text rest : List Token) → AreParts ds × AllByRecursion IsDependency ds × (text ≡ tokens.Depends ∷ tokens.Upon ∷ (parts_spelling dependency_spelling ds ++ tokens.Semicolon ∷ [])) → dependencies_at (text ++ rest) ≡ got ds rest
unfolding optional
some_dependencies ds text rest s =
    ap (λ (t : List Token). dependencies_at (t ++ rest)) s.2 ∙ enclosed_read dependency_spelling IsDependency dependency_at dependency_read tokens.Upon tokens.Semicolon reasons.NoUpon reasons.NoSemicolon (λ ts. refl) (λ ts. refl) (λ ts. refl) (λ ts. refl) ds rest s.0 s.1

dependencies_read : (ds : List Dependency) (text rest : List Token) → SpellsDependencies ds text → behind_first tokens.Depends rest ≡ None → dependencies_at (text ++ rest) ≡ got ds rest
dependencies_read = optional_read tokens.Depends (enclosed (tokens.Upon, reasons.NoUpon) (tokens.Semicolon, reasons.NoSemicolon) dependency_at) _ some_dependencies

declarations_first : (ds : List Named) (text rest : List Token) → SpellsDeclarations ds text → behind_first tokens.Depends (text ++ tokens.End ∷ rest) ≡ None
declarations_first [] text rest s = ap (λ (t : List Token). behind_first tokens.Depends (t ++ tokens.End ∷ rest)) s
declarations_first (d ∷ ds) text rest s =
    let named : text ++ tokens.End ∷ rest ≡ tokens.Name d.0 ∷ _ = ap (λ (t : List Token). t ++ tokens.End ∷ rest) (s.4 ∙ ap (λ (t : List Token). t ++ s.1) s.2.2) in
    ap (behind_first tokens.Depends) named

body_step : (ds : List Dependency) (ns : List Named) (ts t1 rest : List Token) → dependencies_at ts ≡ got ds t1 → declarations_at most_declarations t1 ≡ got ns (tokens.End ∷ tokens.Dot ∷ rest) → body_at ts ≡ got (ds, ns) rest
unfolding body_at
body_step ds ns ts t1 rest e f = rw (e, f) refl

program_step : (name number version : ℕ) (ds : List Dependency) (ns : List Named) (ts : List Token) → version < 65536 → body_at ts ≡ got (ds, ns) []
    → program_of (tokens.Name name ∷ tokens.Colon ∷ tokens.Program ∷ tokens.Number number ∷ tokens.Version ∷ tokens.Number version ∷ tokens.Equal ∷ tokens.Begin ∷ ts) ≡ Ok (program_with (name, number, version) (ds, ns))
unfolding program_of header_at
program_step name number version ds ns ts lt e = rw (small_read version (tokens.Equal ∷ tokens.Begin ∷ ts) lt, e) refl

pub program_read : (p : ProgramModel) (ts : List Token) → SpellsProgram p ts → program_of ts ≡ Ok p
program_read p ts s =
    let after = s.1 ++ tokens.End ∷ tokens.Dot ∷ [] in
    let body = body_step p.dependencies p.declarations (s.0 ++ after) after []
    (dependencies_read p.dependencies s.0 after s.2 (declarations_first p.declarations s.1 (tokens.Dot ∷ []) s.3))
    (declarations_read most_declarations p.declarations s.1 (tokens.Dot ∷ []) s.4 s.3) in
    ap program_of s.6 ∙ program_step p.name p.number p.version p.dependencies p.declarations (s.0 ++ after) s.5 body
