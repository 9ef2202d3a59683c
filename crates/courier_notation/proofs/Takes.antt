-- What was read of tokens, and what that says of them.
use Rattle.std.proofs.Common.{◌≡◌, ◌⊎◌, ℕ, zero, suc, ◌<◌, ◌≤◌, Bool, true, false, cond, ltb, List, [], ◌∷◌, ◌++◌, length, Option, Some, None, Result, Ok, Err, refl, sym, ap, subst, ◌∙◌, append_assoc, arith, inl, inr}
use Rattle.std.specs.List.{AllByRecursion}
use Rattle.std.proofs.lemmas.Bool.{ltb-true}
use Rattle.courier_notation.specs.declared.reason.Reason.{Reason}
use Rattle.courier_notation.specs.declared.reason.Reason.TheVariants as reasons
use Rattle.courier_notation.specs.declared.token.Token.{Token}
use Rattle.courier_notation.specs.declared.token.Token.TheVariants as tokens
use Rattle.courier_notation.specs.declared.written.Numeric.{Numeric}
use Rattle.courier_notation.specs.declared.written.Numeric.TheVariants as numerics
use Rattle.courier_notation.specs.declared.written.Reference.{Reference}
use Rattle.courier_notation.specs.declared.written.Reference.TheVariants as references
use Rattle.courier_notation.specs.Written.{Designator}
use Rattle.courier_notation.specs.Failing.{over}
use Rattle.courier_notation.specs.Reading.{Fault, Reader, by_name, behind_comma, behind_first, others_at, listed, token_at, name_at, reference_behind, small_or_fault, numeric_at}
use Rattle.courier_notation.proofs.Failing.{ok_is, bind_ok, over_ok}
use Rattle.courier_notation.specs.Spelling.{name_spelling, reference_spelling, numeric_spelling, more_spelling, parts_spelling, IsNumeric, IsNumberIfAny}

-- ---- results

abbrev pub done : {A : Type 0} → A → Result A Fault
done x = Ok x

-- ---- texts

-- the tokens are a text, and then the rest
pub record Takes (ts text rest : List Token) : Type 0 where
  pub parts : ts ≡ text ++ rest

pub Takes-then : {a x b y c : List Token} → Takes a x b → Takes b y c → Takes a (x ++ y) c
Takes-then {x} {y} {c} p q = record { parts = p.parts ∙ ap (λ (t : List Token). x ++ t) q.parts ∙ sym (append_assoc x y c) }

pub Takes-behind : (t : Token) {a b y c : List Token} → a ≡ t ∷ b → Takes b y c → Takes a (t ∷ y) c
Takes-behind t e q = record { parts = e ∙ ap (λ (r : List Token). t ∷ r) q.parts }

pub Takes-one : (t : Token) {a b : List Token} → a ≡ t ∷ b → Takes a (t ∷ []) b
Takes-one t e = record { parts = e }

-- what a reader reads is spelled so, and is good
abbrev pub IsSound : {A : Type 0} → (A → List Token) → (A → Type 0) → Reader A → Type 0
IsSound {A} spell Good one = (ts : List Token) (x : A) (rest : List Token) → one ts ≡ Ok (x, rest) → Takes ts (spell x) rest × Good x

-- ---- single tokens

behind_same : (t : Token) (ts rest : List Token) → done ts ≡ done rest → t ∷ ts ≡ t ∷ rest
behind_same t ts rest e = ap (λ (r : List Token). t ∷ r) (ok_is ts rest e)

abbrev stopped : Fault → Result (List Token) Fault
stopped f = Err f

no_fault : (f : Fault) (rest : List Token) → stopped f ≡ Ok rest → ⊥
no_fault f rest e = cc

-- the wanted token is taken alone
abbrev pub TakesOnly : Token → Reason → Type 0
TakesOnly wanted missing = (ts rest : List Token) → token_at wanted missing ts ≡ Ok rest → ts ≡ wanted ∷ rest

pub of_is : TakesOnly tokens.Of reasons.NoOf
of_is = elim [ tokens.Of ∷ ts ↦ λ rest e. behind_same tokens.Of ts rest e | _ ↦ λ rest e. absurd (no_fault _ rest e) ]

pub arrow_is : TakesOnly tokens.Arrow reasons.NoArrow
arrow_is = elim [ tokens.Arrow ∷ ts ↦ λ rest e. behind_same tokens.Arrow ts rest e | _ ↦ λ rest e. absurd (no_fault _ rest e) ]

pub colon_is : TakesOnly tokens.Colon reasons.NoColon
colon_is = elim [ tokens.Colon ∷ ts ↦ λ rest e. behind_same tokens.Colon ts rest e | _ ↦ λ rest e. absurd (no_fault _ rest e) ]

pub open_brace_is : TakesOnly tokens.OpenBrace reasons.NoOpenBrace
open_brace_is = elim [ tokens.OpenBrace ∷ ts ↦ λ rest e. behind_same tokens.OpenBrace ts rest e | _ ↦ λ rest e. absurd (no_fault _ rest e) ]

pub close_brace_is : TakesOnly tokens.CloseBrace reasons.NoCloseBrace
close_brace_is = elim [ tokens.CloseBrace ∷ ts ↦ λ rest e. behind_same tokens.CloseBrace ts rest e | _ ↦ λ rest e. absurd (no_fault _ rest e) ]

pub open_bracket_is : TakesOnly tokens.OpenBracket reasons.NoOpenBracket
open_bracket_is = elim [ tokens.OpenBracket ∷ ts ↦ λ rest e. behind_same tokens.OpenBracket ts rest e | _ ↦ λ rest e. absurd (no_fault _ rest e) ]

pub close_bracket_is : TakesOnly tokens.CloseBracket reasons.NoCloseBracket
close_bracket_is = elim [ tokens.CloseBracket ∷ ts ↦ λ rest e. behind_same tokens.CloseBracket ts rest e | _ ↦ λ rest e. absurd (no_fault _ rest e) ]

pub open_parenthesis_is : TakesOnly tokens.OpenParenthesis reasons.NoOpenParenthesis
open_parenthesis_is = elim [ tokens.OpenParenthesis ∷ ts ↦ λ rest e. behind_same tokens.OpenParenthesis ts rest e | _ ↦ λ rest e. absurd (no_fault _ rest e) ]

pub close_parenthesis_is : TakesOnly tokens.CloseParenthesis reasons.NoCloseParenthesis
close_parenthesis_is = elim [ tokens.CloseParenthesis ∷ ts ↦ λ rest e. behind_same tokens.CloseParenthesis ts rest e | _ ↦ λ rest e. absurd (no_fault _ rest e) ]

pub begin_is : TakesOnly tokens.Begin reasons.NoBegin
begin_is = elim [ tokens.Begin ∷ ts ↦ λ rest e. behind_same tokens.Begin ts rest e | _ ↦ λ rest e. absurd (no_fault _ rest e) ]

pub end_is : TakesOnly tokens.End reasons.NoEnd
end_is = elim [ tokens.End ∷ ts ↦ λ rest e. behind_same tokens.End ts rest e | _ ↦ λ rest e. absurd (no_fault _ rest e) ]

pub program_is : TakesOnly tokens.Program reasons.NoProgram
program_is = elim [ tokens.Program ∷ ts ↦ λ rest e. behind_same tokens.Program ts rest e | _ ↦ λ rest e. absurd (no_fault _ rest e) ]

pub version_is : TakesOnly tokens.Version reasons.NoVersion
version_is = elim [ tokens.Version ∷ ts ↦ λ rest e. behind_same tokens.Version ts rest e | _ ↦ λ rest e. absurd (no_fault _ rest e) ]

pub upon_is : TakesOnly tokens.Upon reasons.NoUpon
upon_is = elim [ tokens.Upon ∷ ts ↦ λ rest e. behind_same tokens.Upon ts rest e | _ ↦ λ rest e. absurd (no_fault _ rest e) ]

pub equal_is : TakesOnly tokens.Equal reasons.NoEqual
equal_is = elim [ tokens.Equal ∷ ts ↦ λ rest e. behind_same tokens.Equal ts rest e | _ ↦ λ rest e. absurd (no_fault _ rest e) ]

pub semicolon_is : TakesOnly tokens.Semicolon reasons.NoSemicolon
semicolon_is = elim [ tokens.Semicolon ∷ ts ↦ λ rest e. behind_same tokens.Semicolon ts rest e | _ ↦ λ rest e. absurd (no_fault _ rest e) ]

pub dot_is : TakesOnly tokens.Dot reasons.NoDot
dot_is = elim [ tokens.Dot ∷ ts ↦ λ rest e. behind_same tokens.Dot ts rest e | _ ↦ λ rest e. absurd (no_fault _ rest e) ]

pub comma_is : (ts next : List Token) → behind_comma ts ≡ Some next → ts ≡ tokens.Comma ∷ next
comma_is = elim [ tokens.Comma ∷ ts ↦ λ next e. cc | _ ↦ λ next e. absurd cc ]

-- a token that is found is taken alone
abbrev pub IsFirst : Token → Type 0
IsFirst first = (ts next : List Token) → behind_first first ts ≡ Some next → ts ≡ first ∷ next

abbrev found : List Token → Option (List Token)
found ts = Some ts

first_same : (t : Token) (ts next : List Token) → found ts ≡ found next → t ∷ ts ≡ t ∷ next
first_same t ts next e = let same : ts ≡ next = cc in ap (λ (r : List Token). t ∷ r) same

no_next : (next : List Token) → None ≡ found next → ⊥
no_next next e = cc

pub bracket_first : IsFirst tokens.OpenBracket
bracket_first = elim [ tokens.OpenBracket ∷ ts ↦ λ next e. first_same tokens.OpenBracket ts next e | _ ↦ λ next e. absurd (no_next next e) ]

pub returns_first : IsFirst tokens.Returns
returns_first = elim [ tokens.Returns ∷ ts ↦ λ next e. first_same tokens.Returns ts next e | _ ↦ λ next e. absurd (no_next next e) ]

pub reports_first : IsFirst tokens.Reports
reports_first = elim [ tokens.Reports ∷ ts ↦ λ next e. first_same tokens.Reports ts next e | _ ↦ λ next e. absurd (no_next next e) ]

pub depends_first : IsFirst tokens.Depends
depends_first = elim [ tokens.Depends ∷ ts ↦ λ next e. first_same tokens.Depends ts next e | _ ↦ λ next e. absurd (no_next next e) ]

-- ---- what is good about parts

abbrev pub Any : {A : Type 0} → A → Type 0
Any x = Unit {0}

abbrev pub GoodMember : ℕ × Numeric → Type 0
GoodMember m = IsNumeric m.1

abbrev pub GoodDesignator : Designator → Type 0
GoodDesignator d = IsNumberIfAny d.1

pub name_takes : IsSound name_spelling Any name_at
name_takes [] n rest e = absurd cc
name_takes (tokens.Name m ∷ ts) n rest e = subst (λ (p : ℕ × List Token). Takes (tokens.Name m ∷ ts) (name_spelling p.0) p.1 × Unit {0}) (ok_is (m, ts) (n, rest) e) (record { parts = refl }, tt)
name_takes (t ∷ ts) n rest e = absurd cc

-- what begins with a name
pub by_name_takes : {A : Type 0} (spell : A → List Token) (Good : A → Type 0) (behind : ℕ → Reader A) → ((n : ℕ) (ts : List Token) (x : A) (rest : List Token) → behind n ts ≡ Ok (x, rest) → Takes (tokens.Name n ∷ ts) (spell x) rest × Good x) → IsSound spell Good (by_name behind)
unfolding by_name
by_name_takes spell Good behind sound ts x rest e =
    let a = bind_ok (name_at ts) _ (x, rest) e in
    let t = name_takes ts a.0.0 a.0.1 a.1 in
    subst (λ (t : List Token). Takes t (spell x) rest × Good x) (sym t.0.parts) (sound a.0.0 a.0.1 x rest a.2)

-- ---- references and numbers

-- a reference behind its first name
pub reference_takes : (n : ℕ) (ts : List Token) (r : Reference) (rest : List Token) → reference_behind n ts ≡ Ok (r, rest) → Takes (tokens.Name n ∷ ts) (reference_spelling r) rest
reference_takes n [] r rest e = subst (λ (p : Reference × List Token). Takes (tokens.Name n ∷ []) (reference_spelling p.0) p.1) (ok_is (references.Own n, []) (r, rest) e) (record { parts = refl })
reference_takes n (tokens.Dot ∷ ts) r rest e =
    let o = over_ok (references.Other n) (name_at ts) (r, rest) e in
    let m = name_takes ts o.0.0 o.0.1 o.1 in
    subst (λ (p : Reference × List Token). Takes (tokens.Name n ∷ tokens.Dot ∷ ts) (reference_spelling p.0) p.1) o.2 (record { parts = ap (λ (t : List Token). tokens.Name n ∷ tokens.Dot ∷ t) m.0.parts })
reference_takes n (t ∷ ts) r rest e = subst (λ (p : Reference × List Token). Takes (tokens.Name n ∷ t ∷ ts) (reference_spelling p.0) p.1) (ok_is (references.Own n, t ∷ ts) (r, rest) e) (record { parts = refl })

abbrev pub IsSmall : ℕ → Type 0
IsSmall n = n < 65536

small_is : (n : ℕ) (b : Bool) (ts : List Token) (f : Fault) (x : ℕ × List Token) → ltb n 65536 ≡ b → cond {A = Result (ℕ × List Token) Fault} b (Ok (n, ts)) (Err f) ≡ Ok x → ((n, ts) ≡ x) × IsSmall n
small_is n false ts f x h e = absurd cc
small_is n true ts f x h e = (ok_is (n, ts) x e, ltb-true n 65536 h)

-- a number of one word, from the number and the tokens behind it
pub small_behind_takes : (n : ℕ) (ts : List Token) (x : ℕ × List Token) → small_or_fault n ts ≡ Ok x → Takes (tokens.Number n ∷ ts) (tokens.Number x.0 ∷ []) x.1 × IsSmall x.0
small_behind_takes n ts x e =
    let s = small_is n (ltb n 65536) ts _ x refl e in
    subst (λ (p : ℕ × List Token). Takes (tokens.Number n ∷ ts) (tokens.Number p.0 ∷ []) p.1 × IsSmall p.0) s.0 (record { parts = refl }, s.1)

pub numeric_takes : IsSound numeric_spelling IsNumeric numeric_at
unfolding numeric_at
numeric_takes [] x rest e = absurd cc
numeric_takes (tokens.Number n ∷ ts) x rest e =
    let o = over_ok numerics.Number (small_or_fault n ts) (x, rest) e in
    subst (λ (p : Numeric × List Token). Takes (tokens.Number n ∷ ts) (numeric_spelling p.0) p.1 × IsNumeric p.0) o.2 (small_behind_takes n ts o.0 o.1)
numeric_takes (tokens.Name n ∷ ts) x rest e =
    let o = over_ok numerics.Constant (reference_behind n ts) (x, rest) e in
    subst (λ (p : Numeric × List Token). Takes (tokens.Name n ∷ ts) (numeric_spelling p.0) p.1 × IsNumeric p.0) o.2 (reference_takes n ts o.0.0 o.0.1 o.1, tt)
numeric_takes (t ∷ ts) x rest e = absurd cc

-- ---- lists

pub more_is : {A : Type 0} (spell : A → List Token) (xs : List A) → 1 ≤ length xs → more_spelling spell xs ≡ tokens.Comma ∷ parts_spelling spell xs
more_is spell [] h = absurd (omega arith)
more_is spell (x ∷ xs) h = refl

pub others_ok : {A : Type 0} (others : Reader (List A)) (ts : List Token) (o : Option (List Token)) (xs : List A) (rest : List Token) → others_at others ts o ≡ Ok (xs, rest)
    → ((next : List Token) × (o ≡ Some next) × (others next ≡ Ok (xs, rest))) ⊎ ((o ≡ None) × (xs ≡ []) × (ts ≡ rest))
others_ok others ts (Some next) xs rest e = inl (next, refl, e)
others_ok {A} others ts None xs rest e =
    let p : xs ≡ [] = ap (λ (p : List A × List Token). p.0) (sym (ok_is ([], ts) (xs, rest) e)) in
    let q : ts ≡ rest = ap (λ (p : List A × List Token). p.1) (ok_is ([], ts) (xs, rest) e) in
    inr (refl, p, q)

-- what a list that was read is
pub record IsList {A : Type 0} (spell : A → List Token) (Good : A → Type 0) (most : ℕ) (ts : List Token) (xs : List A) (rest : List Token) : Type 0 where
  pub takes : Takes ts (parts_spelling spell xs) rest
  pub some : 1 ≤ length xs
  pub few : length xs ≤ most
  pub good : AllByRecursion Good xs

pub listed_takes : {A : Type 0} (spell : A → List Token) (Good : A → Type 0) (one : Reader A) → IsSound spell Good one → (most : ℕ) (ts : List Token) (xs : List A) (rest : List Token) → listed one most ts ≡ Ok (xs, rest) → IsList spell Good most ts xs rest
unfolding listed
listed_takes spell Good one sound zero ts xs rest e = absurd cc
listed_takes {A} spell Good one sound (suc most) ts xs rest e =
    let b = bind_ok (one ts) (λ first. over (λ others. first.0 ∷ others) (others_at (listed one most) first.1 (behind_comma first.1))) (xs, rest) e in
    let x = b.0.0 in
    let after = b.0.1 in
    let first = sound ts x after b.1 in
    let o = over_ok (λ others. x ∷ others) (others_at (listed one most) after (behind_comma after)) (xs, rest) b.2 in
    let found : IsList spell Good (suc most) ts (x ∷ o.0.0) o.0.1 =
    elim (others_ok (listed one most) after (behind_comma after) o.0.0 o.0.1 o.1) [
      | inl m ↦
          let l = listed_takes spell Good one sound most m.0 o.0.0 o.0.1 m.2 in
          let more : Takes after (tokens.Comma ∷ parts_spelling spell o.0.0) o.0.1 = Takes-behind tokens.Comma (comma_is after m.0 m.1) l.takes in
          let both : Takes ts (spell x ++ tokens.Comma ∷ parts_spelling spell o.0.0) o.0.1 = Takes-then first.0 more in
          record {
            takes = subst (λ (t : List Token). Takes ts (spell x ++ t) o.0.1) (sym (more_is spell o.0.0 l.some)) both;
            some = omega arith;
            few = omega (arith, l.few);
            good = (first.1, l.good);
          }
      | inr n ↦
          let none : Takes after [] o.0.1 = record { parts = n.2 } in
          let both : Takes ts (spell x ++ []) o.0.1 = Takes-then first.0 none in
          subst (λ (others : List A). IsList spell Good (suc most) ts (x ∷ others) o.0.1) (sym n.1) (record { takes = both; some = omega arith; few = omega arith; good = (first.1, tt) })
    ] in
    subst (λ (p : List A × List Token). IsList spell Good (suc most) ts p.0 p.1) o.2 found
