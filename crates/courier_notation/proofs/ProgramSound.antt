-- Tokens that are read as a program spell it.
use Rattle.std.proofs.Common.{◌≡◌, ◌⊎◌, ℕ, zero, suc, ◌<◌, ◌≤◌, Bool, true, false, cond, List, [], ◌∷◌, ◌++◌, length, Result, Ok, Err, refl, ap, subst, ◌∙◌, append-nil, arith, inl, inr}
use Rattle.std.specs.List.{AllByRecursion}
use Rattle.courier_notation.specs.declared.declared.Dependency.{Dependency}
use Rattle.courier_notation.specs.declared.reason.Reason.{Reason}
use Rattle.courier_notation.specs.declared.reason.Reason.TheVariants as reasons
use Rattle.courier_notation.specs.declared.token.Token.{Token}
use Rattle.courier_notation.specs.declared.token.Token.TheVariants as tokens
use Rattle.courier_notation.specs.declared.written.Reference.{Reference}
use Rattle.courier_notation.specs.Written.{fields_from}
use Rattle.courier_notation.specs.ProgramModels.{DeclaredModel, FieldList, ProgramModel}
use Rattle.courier_notation.specs.Failing.{◌>>=◌, over}
use Rattle.courier_notation.specs.Reading.{Fault, Reader, behind_first, enclosed, in_parentheses, optional, reference_behind, listed, most_parts, token_at, name_at, fields_behind, fields_at, type_at}
use Rattle.courier_notation.specs.Programs.{most_depth, long_number, small_at, constant_at, arguments_at, results_at, reference_at, reports_at}
use Rattle.courier_notation.specs.Programs.{procedure_behind, error_behind, type_declared, constant_declared, declared_at, declaration_at, is_end, most_declarations, declarations_at, dependency_at, dependencies_at, nothing_at, Header, header_at, body_at, program_with, program_of}
use Rattle.courier_notation.specs.Spelling.{reference_spelling, parts_spelling, type_spelling, fields_spelling, AreParts}
use Rattle.courier_notation.specs.ProgramSpelling.{SpellsFields, SaysNothing, SpellsArguments, SpellsResults, SpellsReports, numbered, SpellsDeclared, SpellsDeclaration, SpellsDeclarations, dependency_spelling, IsDependency, SpellsDependencies, SpellsProgram}
use Rattle.courier_notation.proofs.Failing.{ok_is, bind_ok, over_ok}
use Rattle.courier_notation.proofs.Takes.{done, Takes, IsFirst, bracket_first, returns_first, reports_first, depends_first, Takes-then, Takes-behind, Takes-one, TakesOnly, IsSound, IsSmall, Any, listed_takes, name_takes, by_name_takes, others_ok, reference_takes, small_behind_takes}
use Rattle.courier_notation.proofs.Takes.{colon_is, open_bracket_is, close_bracket_is, begin_is, end_is, program_is, version_is, upon_is, equal_is, semicolon_is, dot_is}
use Rattle.courier_notation.proofs.Sound.{type_takes, fields_behind_take, inside_takes}
use Rattle.courier_notation.proofs.ConstantRead.{constant_takes}

-- ---- numbers

abbrev number_spelling : ℕ → List Token
number_spelling n = tokens.Number n ∷ []

long_takes : IsSound number_spelling Any long_number
long_takes [] n rest e = absurd cc
long_takes (tokens.Number m ∷ ts) n rest e = subst (λ (p : ℕ × List Token). Takes (tokens.Number m ∷ ts) (number_spelling p.0) p.1 × Unit {0}) (ok_is (m, ts) (n, rest) e) (record { parts = refl }, tt)
long_takes (t ∷ ts) n rest e = absurd cc

small_takes : IsSound number_spelling IsSmall small_at
unfolding small_at
small_takes ts n rest e =
    let a = bind_ok (long_number ts) _ (n, rest) e in
    let t = long_takes ts a.0.0 a.0.1 a.1 in
    let s = small_behind_takes a.0.0 a.0.1 (n, rest) a.2 in
    (record { parts = t.0.parts ∙ s.0.parts }, s.1)

-- ---- parts of declarations

-- the front of the tokens spells what was read
record Found {A : Type 0} (Spells : A → List Token → Type 0) (ts : List Token) (x : A × List Token) : Type 0 where
  text : List Token
  takes : Takes ts text x.1
  spells : Spells x.0 text

fields_found : (ts : List Token) (x : FieldList × List Token) → fields_at (type_at most_depth) ts ≡ Ok x → Found SpellsFields ts x
unfolding fields_at
fields_found ts x e =
    let a = bind_ok (token_at tokens.OpenBracket reasons.NoOpenBracket ts) (fields_behind (type_at most_depth)) x e in
    let f = fields_behind_take most_depth (type_takes most_depth) a.0 x.0 x.1 a.2 in
    let text = fields_spelling (fields_from x.0) ++ tokens.CloseBracket ∷ [] in
    record { text = tokens.OpenBracket ∷ text; takes = Takes-behind tokens.OpenBracket (open_bracket_is ts a.0 a.1) f.takes; spells = (f.few, f.good, refl) }

-- what a token announces
optional_found : {A : Type 0} (first : Token) → IsFirst first → (one : Reader (List A)) (Says : List A → List Token → Type 0)
    → ((ts : List Token) (x : List A × List Token) → one ts ≡ Ok x → Found (λ xs text. Says xs (first ∷ text)) ts x) → (ts : List Token) (x : List A × List Token) → optional first one ts ≡ Ok x → Found (λ xs text. SaysNothing xs text ⊎ Says xs text) ts x
unfolding optional
optional_found {A} first is_first one Says found ts x e =
    elim (others_ok one ts (behind_first first ts) x.0 x.1 e) [
      | inl m ↦ let f = found m.0 x m.2 in record { text = first ∷ f.text; takes = Takes-behind first (is_first ts m.0 m.1) f.takes; spells = inr f.spells }
      | inr n ↦ record { text = []; takes = record { parts = n.2 }; spells = inl (n.1, refl) }
    ]

inside_found : (ts : List Token) (x : FieldList × List Token) → fields_behind (type_at most_depth) ts ≡ Ok x → Found (λ fields text. SpellsFields fields (tokens.OpenBracket ∷ text)) ts x
inside_found ts x e =
    let f = fields_behind_take most_depth (type_takes most_depth) ts x.0 x.1 e in
    record { text = fields_spelling (fields_from x.0) ++ tokens.CloseBracket ∷ []; takes = f.takes; spells = (f.few, f.good, refl) }

arguments_found : (ts : List Token) (x : FieldList × List Token) → arguments_at ts ≡ Ok x → Found SpellsArguments ts x
arguments_found = optional_found tokens.OpenBracket bracket_first (fields_behind (type_at most_depth)) SpellsFields inside_found

abbrev SaysResults : FieldList → List Token → Type 0
SaysResults fields text = (inside : List Token) × (text ≡ tokens.Returns ∷ inside) × SpellsFields fields inside

results_found : (ts : List Token) (x : FieldList × List Token) → results_at ts ≡ Ok x → Found SpellsResults ts x
results_found = optional_found tokens.Returns returns_first (fields_at (type_at most_depth)) SaysResults
    (λ ts x e. let f = fields_found ts x e in record { text = f.text; takes = f.takes; spells = (f.text, refl, f.spells) })

whole_takes : IsSound reference_spelling Any reference_at
whole_takes = by_name_takes reference_spelling Any reference_behind (λ n ts r rest e. (reference_takes n ts r rest e, tt))

-- parts, with the opening and the closing token
enclosed_takes : {A : Type 0} (opening closing : Token) (no_opening no_closing : Reason) → TakesOnly opening no_opening → TakesOnly closing no_closing → (spell : A → List Token) (Good : A → Type 0) (one : Reader A) → IsSound spell Good one
    → (ts : List Token) (x : List A × List Token) → enclosed (opening, no_opening) (closing, no_closing) one ts ≡ Ok x → Takes ts (opening ∷ (parts_spelling spell x.0 ++ closing ∷ [])) x.1 × AreParts x.0 × AllByRecursion Good x.0
unfolding enclosed
enclosed_takes {A} opening closing no_opening no_closing opens closes spell Good one sound ts x e =
    let a = bind_ok (token_at opening no_opening ts) _ x e in
    let b = bind_ok (listed one most_parts a.0) _ x a.2 in
    let c = bind_ok (token_at closing no_closing b.0.1) _ x b.2 in
    let l = listed_takes spell Good one sound most_parts a.0 b.0.0 b.0.1 b.1 in
    let inside = Takes-then l.takes (Takes-one closing (closes b.0.1 c.0 c.1)) in
    let whole = Takes-behind opening (opens ts a.0 a.1) inside in
    subst (λ (p : List A × List Token). Takes ts (opening ∷ (parts_spelling spell p.0 ++ closing ∷ [])) p.1 × AreParts p.0 × AllByRecursion Good p.0) (ok_is (b.0.0, c.0) x c.2)
    (whole, (l.some, l.few), l.good)

abbrev SaysReports : List Reference → List Token → Type 0
SaysReports errors text = AreParts errors × (text ≡ tokens.Reports ∷ tokens.OpenBracket ∷ (parts_spelling reference_spelling errors ++ tokens.CloseBracket ∷ []))

reports_found : (ts : List Token) (x : List Reference × List Token) → reports_at ts ≡ Ok x → Found SpellsReports ts x
reports_found = optional_found tokens.Reports reports_first (enclosed (tokens.OpenBracket, reasons.NoOpenBracket) (tokens.CloseBracket, reasons.NoCloseBracket) reference_at) SaysReports (λ ts x e.
    let f = enclosed_takes tokens.OpenBracket tokens.CloseBracket reasons.NoOpenBracket reasons.NoCloseBracket open_bracket_is close_bracket_is reference_spelling Any reference_at whole_takes ts x e in
    record { text = tokens.OpenBracket ∷ (parts_spelling reference_spelling x.0 ++ tokens.CloseBracket ∷ []); takes = f.0; spells = (f.1, refl) })

-- a number behind an equals sign
numbered_takes : (ts : List Token) (rest : List Token) (n : ℕ × List Token) → token_at tokens.Equal reasons.NoEqual ts ≡ Ok rest → small_at rest ≡ Ok n → Takes ts (numbered n.0) n.1 × IsSmall n.0
numbered_takes ts rest n e f =
    let t = small_takes rest n.0 n.1 f in
    (Takes-behind tokens.Equal (equal_is ts rest e) t.0, t.1)

-- ---- declarations

procedure_found : (ts : List Token) (x : DeclaredModel × List Token) → procedure_behind ts ≡ Ok x → Found SpellsDeclared (tokens.Procedure ∷ ts) x
unfolding procedure_behind
procedure_found ts x e =
    let a = bind_ok (arguments_at ts) _ x e in
    let b = bind_ok (results_at a.0.1) _ x a.2 in
    let c = bind_ok (reports_at b.0.1) _ x b.2 in
    let d = bind_ok (token_at tokens.Equal reasons.NoEqual c.0.1) _ x c.2 in
    let f = bind_ok (small_at d.0) _ x d.2 in
    let fa = arguments_found ts a.0 a.1 in
    let fb = results_found a.0.1 b.0 b.1 in
    let fc = reports_found b.0.1 c.0 c.1 in
    let n = numbered_takes c.0.1 d.0 f.0 d.1 f.1 in
    let t2 = Takes-then fc.takes n.0 in
    let t1 = Takes-then fb.takes t2 in
    let t0 = Takes-then fa.takes t1 in
    let text = fa.text ++ (fb.text ++ (fc.text ++ numbered f.0.0)) in
    subst (λ (p : DeclaredModel × List Token). Found SpellsDeclared (tokens.Procedure ∷ ts) p) (ok_is (DeclaredModel.is_procedure a.0.0 b.0.0 c.0.0 f.0.0, f.0.1) x f.2)
    (record { text = tokens.Procedure ∷ text; takes = Takes-behind tokens.Procedure refl t0; spells = (fa.text, fb.text, fc.text, fa.spells, fb.spells, fc.spells, n.1, refl) })

error_found : (ts : List Token) (x : DeclaredModel × List Token) → error_behind ts ≡ Ok x → Found SpellsDeclared (tokens.Error ∷ ts) x
unfolding error_behind
error_found ts x e =
    let a = bind_ok (arguments_at ts) _ x e in
    let d = bind_ok (token_at tokens.Equal reasons.NoEqual a.0.1) _ x a.2 in
    let f = bind_ok (small_at d.0) _ x d.2 in
    let fa = arguments_found ts a.0 a.1 in
    let n = numbered_takes a.0.1 d.0 f.0 d.1 f.1 in
    let t0 = Takes-then fa.takes n.0 in
    let text = fa.text ++ numbered f.0.0 in
    subst (λ (p : DeclaredModel × List Token). Found SpellsDeclared (tokens.Error ∷ ts) p) (ok_is (DeclaredModel.is_error a.0.0 f.0.0, f.0.1) x f.2)
    (record { text = tokens.Error ∷ text; takes = Takes-behind tokens.Error refl t0; spells = (fa.text, fa.spells, n.1, refl) })

type_found : (ts : List Token) (x : DeclaredModel × List Token) → type_declared ts ≡ Ok x → Found SpellsDeclared (tokens.Type ∷ ts) x
unfolding type_declared
type_found ts x e =
    let a = bind_ok (token_at tokens.Equal reasons.NoEqual ts) _ x e in
    let b = bind_ok (type_at most_depth a.0) _ x a.2 in
    let t = type_takes most_depth a.0 b.0.0 b.0.1 b.1 in
    let t1 = Takes-behind tokens.Equal (equal_is ts a.0 a.1) t.0 in
    subst (λ (p : DeclaredModel × List Token). Found SpellsDeclared (tokens.Type ∷ ts) p) (ok_is (DeclaredModel.is_type b.0.0, b.0.1) x b.2)
    (record { text = tokens.Type ∷ tokens.Equal ∷ type_spelling b.0.0; takes = Takes-behind tokens.Type refl t1; spells = (t.1, refl) })

constant_declared_found : (ts : List Token) (x : DeclaredModel × List Token) → constant_declared ts ≡ Ok x → Found SpellsDeclared ts x
unfolding constant_declared
constant_declared_found ts x e =
    let a = bind_ok (type_at most_depth ts) _ x e in
    let b = bind_ok (token_at tokens.Equal reasons.NoEqual a.0.1) _ x a.2 in
    let c = bind_ok (constant_at most_depth b.0) _ x b.2 in
    let t = type_takes most_depth ts a.0.0 a.0.1 a.1 in
    let f = constant_takes most_depth b.0 c.0.0 c.0.1 c.1 in
    let t1 = Takes-behind tokens.Equal (equal_is a.0.1 b.0 b.1) f.1 in
    let t0 = Takes-then t.0 t1 in
    subst (λ (p : DeclaredModel × List Token). Found SpellsDeclared ts p) (ok_is (DeclaredModel.is_constant a.0.0 c.0.0, c.0.1) x c.2)
    (record { text = type_spelling a.0.0 ++ tokens.Equal ∷ f.0; takes = t0; spells = (f.0, t.1, f.2, refl) })

declared_found : (ts : List Token) (x : DeclaredModel × List Token) → declared_at ts ≡ Ok x → Found SpellsDeclared ts x
unfolding declared_at
declared_found [] x e = constant_declared_found [] x e
declared_found (tokens.Type ∷ ts) x e = type_found ts x e
declared_found (tokens.Procedure ∷ ts) x e = procedure_found ts x e
declared_found (tokens.Error ∷ ts) x e = error_found ts x e
declared_found (t ∷ ts) x e = constant_declared_found (t ∷ ts) x e

abbrev Named : Type 0
Named = ℕ × DeclaredModel

declaration_found : (ts : List Token) (x : Named × List Token) → declaration_at ts ≡ Ok x → Found SpellsDeclaration ts x
unfolding declaration_at
declaration_found ts x e =
    let a = bind_ok (name_at ts) _ x e in
    let b = bind_ok (token_at tokens.Colon reasons.NoColon a.0.1) _ x a.2 in
    let c = bind_ok (declared_at b.0) _ x b.2 in
    let d = bind_ok (token_at tokens.Semicolon reasons.NoSemicolon c.0.1) _ x c.2 in
    let t0 = name_takes ts a.0.0 a.0.1 a.1 in
    let f = declared_found b.0 c.0 c.1 in
    let t3 = Takes-then f.takes (Takes-one tokens.Semicolon (semicolon_is c.0.1 d.0 d.1)) in
    let text = f.text ++ tokens.Semicolon ∷ [] in
    let t2 = Takes-behind tokens.Colon (colon_is a.0.1 b.0 b.1) t3 in
    let whole = Takes-behind (tokens.Name a.0.0) t0.0.parts t2 in
    let made : Named × List Token = ((a.0.0, c.0.0), d.0) in
    subst (λ (p : Named × List Token). Found SpellsDeclaration ts p) (ok_is made x d.2)
    (record { text = tokens.Name a.0.0 ∷ tokens.Colon ∷ text; takes = whole; spells = (f.text, f.spells, refl) })

record AreDeclared (most : ℕ) (ts : List Token) (x : List Named × List Token) : Type 0 where
  text : List Token
  takes : Takes ts text x.1
  spells : SpellsDeclarations x.0 text
  few : length x.0 ≤ most

no_declaration : (most : ℕ) (ts : List Token) (x : List Named × List Token) → done ([], ts) ≡ Ok x → AreDeclared most ts x
no_declaration most ts x e =
    let made : List Named × List Token = ([], ts) in
    subst (λ (p : List Named × List Token). AreDeclared most ts p) (ok_is made x e) (record { text = []; takes = record { parts = refl }; spells = refl; few = omega arith })

declarations_found : (most : ℕ) (ts : List Token) (x : List Named × List Token) → declarations_at most ts ≡ Ok x → AreDeclared most ts x
unfolding declarations_at
declarations_found zero ts x e = by_end (is_end ts) e
  where
    by_end : (b : Bool) → cond {A = Result (List Named × List Token) Fault} b (Ok ([], ts)) (Err (length ts, Reason.TooManyDeclarations)) ≡ Ok x → AreDeclared zero ts x
    by_end true e = no_declaration zero ts x e
    by_end false e = absurd cc
declarations_found (suc most) ts x e = by_end (is_end ts) (declarations_found most) e
  where
    by_end : (b : Bool) → ((ts : List Token) (x : List Named × List Token) → declarations_at most ts ≡ Ok x → AreDeclared most ts x)
        → cond {A = Result (List Named × List Token) Fault} b (Ok ([], ts)) (declaration_at ts >>= λ first. over (λ others. first.0 ∷ others) (declarations_at most first.1)) ≡ Ok x → AreDeclared (suc most) ts x
    by_end true more e = no_declaration (suc most) ts x e
    by_end false more e =
        let a = bind_ok (declaration_at ts) _ x e in
        let o = over_ok (λ others. a.0.0 ∷ others) (declarations_at most a.0.1) x a.2 in
        let f = declaration_found ts a.0 a.1 in
        let m = more a.0.1 o.0 o.1 in
        subst (λ (p : List Named × List Token). AreDeclared (suc most) ts p) o.2
        (record { text = f.text ++ m.text; takes = Takes-then f.takes m.takes; spells = (f.text, m.text, f.spells, m.spells, refl); few = omega (arith, m.few) })

-- ---- programs

dependency_takes : IsSound dependency_spelling IsDependency dependency_at
unfolding dependency_at
dependency_takes ts x rest e =
    let a = bind_ok (name_at ts) _ (x, rest) e in
    let b = bind_ok (in_parentheses long_number a.0.1) _ (x, rest) a.2 in
    let c = bind_ok (token_at tokens.Version reasons.NoVersion b.0.1) _ (x, rest) b.2 in
    let d = bind_ok (small_at c.0) _ (x, rest) c.2 in
    let n = name_takes ts a.0.0 a.0.1 a.1 in
    let l = inside_takes number_spelling Any long_number long_takes a.0.1 b.0.0 b.0.1 b.1 in
    let s = small_takes c.0 d.0.0 d.0.1 d.1 in
    let t1 = Takes-behind tokens.Version (version_is b.0.1 c.0 c.1) s.0 in
    let t0 = Takes-then l.0 t1 in
    let whole = Takes-behind (tokens.Name a.0.0) n.0.parts t0 in
    subst (λ (p : Dependency × List Token). Takes ts (dependency_spelling p.0) p.1 × IsDependency p.0) (ok_is (made a.0.0 b.0.0 d.0.0, d.0.1) (x, rest) d.2) (whole, s.1)
  where
    made : ℕ → ℕ → ℕ → Dependency
    made name number version = record { name = name; number = number; version = version }

abbrev SaysDependencies : List Dependency → List Token → Type 0
SaysDependencies ds text = AreParts ds × AllByRecursion IsDependency ds × (text ≡ tokens.Depends ∷ tokens.Upon ∷ (parts_spelling dependency_spelling ds ++ tokens.Semicolon ∷ []))

dependencies_found : (ts : List Token) (x : List Dependency × List Token) → dependencies_at ts ≡ Ok x → Found SpellsDependencies ts x
dependencies_found = optional_found tokens.Depends depends_first (enclosed (tokens.Upon, reasons.NoUpon) (tokens.Semicolon, reasons.NoSemicolon) dependency_at) SaysDependencies (λ ts x e.
    let f = enclosed_takes tokens.Upon tokens.Semicolon reasons.NoUpon reasons.NoSemicolon upon_is semicolon_is dependency_spelling IsDependency dependency_at dependency_takes ts x e in
    record { text = tokens.Upon ∷ (parts_spelling dependency_spelling x.0 ++ tokens.Semicolon ∷ []); takes = f.0; spells = (f.1, f.2, refl) })

abbrev header_spelling : Header → List Token
header_spelling h =
    tokens.Name h.0 ∷ tokens.Colon ∷ tokens.Program ∷ tokens.Number h.1 ∷ tokens.Version ∷ tokens.Number h.2 ∷ tokens.Equal ∷ tokens.Begin ∷ []

abbrev IsHeader : Header → Type 0
IsHeader h = h.2 < 65536

header_takes : IsSound header_spelling IsHeader header_at
unfolding header_at
header_takes ts x rest e =
    let a = bind_ok (name_at ts) _ (x, rest) e in
    let b = bind_ok (token_at tokens.Colon reasons.NoColon a.0.1) _ (x, rest) a.2 in
    let c = bind_ok (token_at tokens.Program reasons.NoProgram b.0) _ (x, rest) b.2 in
    let d = bind_ok (long_number c.0) _ (x, rest) c.2 in
    let f = bind_ok (token_at tokens.Version reasons.NoVersion d.0.1) _ (x, rest) d.2 in
    let g = bind_ok (small_at f.0) _ (x, rest) f.2 in
    let h = bind_ok (token_at tokens.Equal reasons.NoEqual g.0.1) _ (x, rest) g.2 in
    let k = bind_ok (token_at tokens.Begin reasons.NoBegin h.0) _ (x, rest) h.2 in
    let n = name_takes ts a.0.0 a.0.1 a.1 in
    let l = long_takes c.0 d.0.0 d.0.1 d.1 in
    let s = small_takes f.0 g.0.0 g.0.1 g.1 in
    let x6 : List Token = tokens.Begin ∷ [] in
    let t6 = Takes-one tokens.Begin (begin_is h.0 k.0 k.1) in
    let t5 = Takes-behind tokens.Equal (equal_is g.0.1 h.0 h.1) t6 in
    let t4 = Takes-behind (tokens.Number g.0.0) s.0.parts t5 in
    let t3 = Takes-behind tokens.Version (version_is d.0.1 f.0 f.1) t4 in
    let t2 = Takes-behind (tokens.Number d.0.0) l.0.parts t3 in
    let t1 = Takes-behind tokens.Program (program_is b.0 c.0 c.1) t2 in
    let t0 = Takes-behind tokens.Colon (colon_is a.0.1 b.0 b.1) t1 in
    let whole = Takes-behind (tokens.Name a.0.0) n.0.parts t0 in
    let made : Header × List Token = ((a.0.0, d.0.0, g.0.0), k.0) in
    subst (λ (p : Header × List Token). Takes ts (header_spelling p.0) p.1 × IsHeader p.0) (ok_is made (x, rest) k.2) (whole, s.1)

abbrev Body : Type 0
Body = List Dependency × List Named

abbrev SpellsBody : Body → List Token → Type 0
SpellsBody body text =
    (x : List Token) × (y : List Token) × SpellsDependencies body.0 x × SpellsDeclarations body.1 y × (length body.1 ≤ most_declarations)
    × (text ≡ x ++ (y ++ tokens.End ∷ tokens.Dot ∷ []))

body_found : (ts : List Token) (x : Body × List Token) → body_at ts ≡ Ok x → Found SpellsBody ts x
unfolding body_at
body_found ts x e =
    let a = bind_ok (dependencies_at ts) _ x e in
    let b = bind_ok (declarations_at most_declarations a.0.1) _ x a.2 in
    let c = bind_ok (token_at tokens.End reasons.NoEnd b.0.1) _ x b.2 in
    let d = bind_ok (token_at tokens.Dot reasons.NoDot c.0) _ x c.2 in
    let fa = dependencies_found ts a.0 a.1 in
    let fb = declarations_found most_declarations a.0.1 b.0 b.1 in
    let t3 = Takes-behind tokens.End (end_is b.0.1 c.0 c.1) (Takes-one tokens.Dot (dot_is c.0 d.0 d.1)) in
    let t2 = Takes-then fb.takes t3 in
    let text = fb.text ++ tokens.End ∷ tokens.Dot ∷ [] in
    let made : Body × List Token = ((a.0.0, b.0.0), d.0) in
    subst (λ (p : Body × List Token). Found SpellsBody ts p) (ok_is made x d.2)
    (record { text = fa.text ++ text; takes = Takes-then fa.takes t2; spells = (fa.text, fb.text, fa.spells, fb.spells, fb.few, refl) })

nothing_is : (p q : ProgramModel) (ts : List Token) → nothing_at p ts ≡ Ok q → (p ≡ q) × (ts ≡ [])
nothing_is p q [] e = ((let same : p ≡ q = cc in same), refl)
nothing_is p q (t ∷ ts) e = absurd cc

pub program_spelled : (ts : List Token) (p : ProgramModel) → program_of ts ≡ Ok p → SpellsProgram p ts
unfolding program_of
program_spelled ts p e =
    let a = bind_ok (header_at ts) _ p e in
    let b = bind_ok (body_at a.0.1) _ p a.2 in
    let h = header_takes ts a.0.0 a.0.1 a.1 in
    let f = body_found a.0.1 b.0 b.1 in
    let n = nothing_is (program_with a.0.0 b.0.0) p b.0.1 b.2 in
    let whole : ts ≡ header_spelling a.0.0 ++ f.text = h.0.parts ∙ ap (λ (t : List Token). header_spelling a.0.0 ++ t) (f.takes.parts ∙ ap (λ (r : List Token). f.text ++ r) n.1 ∙ append-nil f.text) in
    let s = f.spells in
    subst (λ (q : ProgramModel). SpellsProgram q ts) n.0 (s.0, s.1, s.2, s.3, s.4, h.1, whole ∙ ap (λ (t : List Token). header_spelling a.0.0 ++ t) s.5)
