-- Tokens that are read as a constant spell it, and what spells a constant is read as that constant.
use Rattle.std.proofs.Common.{◌≡◌, ℕ, zero, suc, ◌≤◌, Bool, true, false, not, cond, List, [], ◌∷◌, ◌++◌, Result, Ok, refl, ap, subst, ◌∙◌, append_assoc, arith, inl, inr}
use Rattle.std.proofs.lemmas.Bool.{not-true}
use Rattle.courier_notation.specs.declared.declared.Constant.{Constant}
use Rattle.courier_notation.specs.declared.declared.Constant.TheVariants as constants
use Rattle.courier_notation.specs.declared.reason.Reason.TheVariants as reasons
use Rattle.courier_notation.specs.declared.token.Token.{Token}
use Rattle.courier_notation.specs.declared.token.Token.TheVariants as tokens
use Rattle.courier_notation.specs.declared.written.Reference.{Reference}
use Rattle.courier_notation.specs.declared.written.Reference.TheVariants as references
use Rattle.courier_notation.specs.Failing.{◌>>=◌, over}
use Rattle.courier_notation.specs.Reading.{Fault, Reader, behind_comma, nested, others_at, listed, most_parts, reference_behind, token_at}
use Rattle.courier_notation.specs.Programs.{long_number, begins_constant, chosen_behind, component_behind, element_at, elements_behind, constant_behind, constant_at}
use Rattle.courier_notation.specs.Spelling.{reference_spelling}
use Rattle.courier_notation.specs.ProgramSpelling.{SpellsConstant, SpellsElement, SpellsElements, number, negative, quoted, is_true, is_false, named, chosen, nothing, listed as listed_elements, alone, component, last, more}
use Rattle.courier_notation.proofs.Failing.{ok_is, bind_ok, over_ok}
use Rattle.courier_notation.proofs.Takes.{Takes, Takes-then, Takes-behind, Takes-one, reference_takes, others_ok, comma_is, close_bracket_is}
use Rattle.courier_notation.proofs.Complete.{last_read, more_read}

-- ---- what is read is spelled

-- tokens whose front spells a constant
record IsFound (depth : ℕ) (ts : List Token) (x : Constant × List Token) : Type 0 where
  text : List Token
  takes : Takes ts text x.1
  spells : SpellsConstant depth x.0 text

abbrev Finds : ℕ → Type 0
Finds depth = (ts : List Token) (x : Constant × List Token) → constant_at depth ts ≡ Ok x → IsFound depth ts x

record IsElementFound (depth : ℕ) (ts rest : List Token) : Type 0 where
  text : List Token
  takes : Takes ts text rest
  spells : SpellsElement depth text

record AreElementsFound (depth most : ℕ) (ts rest : List Token) : Type 0 where
  count : ℕ
  text : List Token
  takes : Takes ts text rest
  few : count ≤ most
  spells : SpellsElements depth count text

component_found : (depth : ℕ) → Finds depth → (ts : List Token) (c : Constant) (text after : List Token) (x : Constant × List Token) → Takes ts text after → SpellsConstant depth c text → component_behind (constant_at depth) c after ≡ Ok x → IsElementFound depth ts x.1
component_found depth find ts c text [] x t s e = subst (λ (p : Constant × List Token). IsElementFound depth ts p.1) (ok_is (c, []) x e) (record { text = text; takes = t; spells = alone depth c text s })
component_found depth find ts c text (tokens.Colon ∷ after) x t s e =
    let f = find after x e in
    let behind = Takes-behind tokens.Colon refl f.takes in
    record { text = text ++ tokens.Colon ∷ f.text; takes = Takes-then t behind; spells = component depth c x.0 text f.text s f.spells }
component_found depth find ts c text (u ∷ after) x t s e = subst (λ (p : Constant × List Token). IsElementFound depth ts p.1) (ok_is (c, u ∷ after) x e) (record { text = text; takes = t; spells = alone depth c text s })

element_found : (depth : ℕ) → Finds depth → (ts : List Token) (x : Constant × List Token) → element_at (constant_at depth) ts ≡ Ok x → IsElementFound depth ts x.1
unfolding element_at
element_found depth find ts x e =
    let a = bind_ok (constant_at depth ts) _ x e in
    let f = find ts a.0 a.1 in
    component_found depth find ts a.0.0 f.text a.0.1 x f.takes f.spells a.2

elements_found : (depth : ℕ) → Finds depth → (most : ℕ) (ts : List Token) (x : List Constant × List Token) → listed (element_at (constant_at depth)) most ts ≡ Ok x → AreElementsFound depth most ts x.1
unfolding listed
elements_found depth find zero ts x e = absurd cc
elements_found depth find (suc most) ts x e =
    let one = element_at (constant_at depth) in
    let b = bind_ok (one ts) _ x e in
    let first = element_found depth find ts b.0 b.1 in
    let o = over_ok (λ others. b.0.0 ∷ others) (others_at (listed one most) b.0.1 (behind_comma b.0.1)) x b.2 in
    let found : AreElementsFound depth (suc most) ts o.0.1 =
    elim (others_ok (listed one most) b.0.1 (behind_comma b.0.1) o.0.0 o.0.1 o.1) [
      | inl m ↦
          let l = elements_found depth find most m.0 (o.0.0, o.0.1) m.2 in
          let behind = Takes-behind tokens.Comma (comma_is b.0.1 m.0 m.1) l.takes in
          record { count = suc l.count; text = first.text ++ tokens.Comma ∷ l.text; takes = Takes-then first.takes behind; few = omega (arith, l.few); spells = more depth l.count first.text l.text first.spells l.spells }
      | inr n ↦
          let here : Takes ts first.text o.0.1 = subst (λ (r : List Token). Takes ts first.text r) n.2 first.takes in
          record { count = 1; text = first.text; takes = here; few = omega arith; spells = last depth first.text first.spells }
    ] in
    subst (λ (p : List Constant × List Token). AreElementsFound depth (suc most) ts p.1) o.2 found

abbrev brackets : ℕ → List Token → Result (Constant × List Token) Fault
brackets depth ts = do
  elements ← listed (element_at (constant_at depth)) most_parts ts
  rest ← token_at tokens.CloseBracket reasons.NoCloseBracket elements.1
  Ok (constants.Other, rest)

some_found : (depth : ℕ) → Finds depth → (ts : List Token) (x : Constant × List Token) → brackets depth ts ≡ Ok x → IsFound (suc depth) (tokens.OpenBracket ∷ ts) x
some_found depth find ts x e =
    let a = bind_ok (listed (element_at (constant_at depth)) most_parts ts) _ x e in
    let b = bind_ok (token_at tokens.CloseBracket reasons.NoCloseBracket a.0.1) _ x a.2 in
    let l = elements_found depth find most_parts ts a.0 a.1 in
    let inside = Takes-then l.takes (Takes-one tokens.CloseBracket (close_bracket_is a.0.1 b.0 b.1)) in
    let whole = Takes-behind tokens.OpenBracket refl inside in
    subst (λ (p : Constant × List Token). IsFound (suc depth) (tokens.OpenBracket ∷ ts) p) (ok_is (constants.Other, b.0) x b.2)
    (record { text = tokens.OpenBracket ∷ (l.text ++ tokens.CloseBracket ∷ []); takes = whole; spells = listed_elements depth l.count l.text l.few l.spells })

bracketed_found : (depth : ℕ) → Finds depth → (ts : List Token) (x : Constant × List Token) → elements_behind (constant_at depth) ts ≡ Ok x → IsFound (suc depth) (tokens.OpenBracket ∷ ts) x
unfolding elements_behind
bracketed_found depth find [] x e = some_found depth find [] x e
bracketed_found depth find (tokens.CloseBracket ∷ ts) x e =
    subst (λ (p : Constant × List Token). IsFound (suc depth) (tokens.OpenBracket ∷ tokens.CloseBracket ∷ ts) p) (ok_is (constants.Other, ts) x e)
    (record { text = tokens.OpenBracket ∷ tokens.CloseBracket ∷ []; takes = record { parts = refl }; spells = nothing depth })
bracketed_found depth find (t ∷ ts) x e = some_found depth find (t ∷ ts) x e

-- what is chosen by a name, or the name alone
choice_found : (depth : ℕ) → Finds depth → (ts : List Token) (r : Reference) (after : List Token) (b : Bool) (x : Constant × List Token) → Takes ts (reference_spelling r) after
    → cond {A = Result (Constant × List Token) Fault} b (over (λ c. constants.Other) (constant_at depth after)) (Ok (constants.Named r, after)) ≡ Ok x → IsFound (suc depth) ts x
choice_found depth find ts r after true x t e =
    let o = over_ok (λ c. constants.Other) (constant_at depth after) x e in
    let f = find after o.0 o.1 in
    subst (λ (p : Constant × List Token). IsFound (suc depth) ts p) o.2
    (record { text = reference_spelling r ++ f.text; takes = Takes-then t f.takes; spells = chosen depth r o.0.0 f.text f.spells })
choice_found depth find ts r after false x t e =
    subst (λ (p : Constant × List Token). IsFound (suc depth) ts p) (ok_is (constants.Named r, after) x e) (record { text = reference_spelling r; takes = t; spells = named depth r })

chosen_found : (depth : ℕ) → Finds depth → (n : ℕ) (ts : List Token) (x : Constant × List Token) → chosen_behind (constant_at depth) n ts ≡ Ok x → IsFound (suc depth) (tokens.Name n ∷ ts) x
unfolding chosen_behind
chosen_found depth find n ts x e =
    let a = bind_ok (reference_behind n ts) _ x e in
    choice_found depth find (tokens.Name n ∷ ts) a.0.0 a.0.1 (begins_constant a.0.1) x (reference_takes n ts a.0.0 a.0.1 a.1) a.2

negative_found : (depth : ℕ) (ts : List Token) (x : Constant × List Token) → over (λ n. constants.Other) (long_number ts) ≡ Ok x → IsFound (suc depth) (tokens.Minus ∷ ts) x
negative_found depth [] x e = absurd cc
negative_found depth (tokens.Number n ∷ ts) x e =
    subst (λ (p : Constant × List Token). IsFound (suc depth) (tokens.Minus ∷ tokens.Number n ∷ ts) p) (ok_is (constants.Other, ts) x e)
    (record { text = tokens.Minus ∷ tokens.Number n ∷ []; takes = record { parts = refl }; spells = negative depth n })
negative_found depth (t ∷ ts) x e = absurd cc

one_token : (depth : ℕ) (t : Token) (c : Constant) (ts : List Token) (x : Constant × List Token) → SpellsConstant (suc depth) c (t ∷ []) → (c, ts) ≡ x → IsFound (suc depth) (t ∷ ts) x
one_token depth t c ts x s e = subst (λ (p : Constant × List Token). IsFound (suc depth) (t ∷ ts) p) e (record { text = t ∷ []; takes = record { parts = refl }; spells = s })

by_first : (depth : ℕ) → Finds depth → (t : Token) (ts : List Token) (x : Constant × List Token) → constant_behind (constant_at depth) t ts ≡ Ok x → IsFound (suc depth) (t ∷ ts) x
unfolding constant_behind
by_first depth find (tokens.Number n) ts x e = one_token depth (tokens.Number n) (constants.Number n) ts x (number depth n) (ok_is (constants.Number n, ts) x e)
by_first depth find (tokens.Quoted n) ts x e = one_token depth (tokens.Quoted n) constants.Other ts x (quoted depth n) (ok_is (constants.Other, ts) x e)
by_first depth find (tokens.Name n) ts x e = chosen_found depth find n ts x e
by_first depth find tokens.True ts x e = one_token depth tokens.True constants.Other ts x (is_true depth) (ok_is (constants.Other, ts) x e)
by_first depth find tokens.False ts x e = one_token depth tokens.False constants.Other ts x (is_false depth) (ok_is (constants.Other, ts) x e)
by_first depth find tokens.Minus ts x e = negative_found depth ts x e
by_first depth find tokens.OpenBracket ts x e = bracketed_found depth find ts x e
by_first depth find t ts x e = absurd cc

constant_found : (depth : ℕ) → Finds depth
unfolding nested
constant_found zero ts x e = absurd cc
constant_found (suc depth) [] x e = absurd cc
constant_found (suc depth) (t ∷ ts) x e = by_first depth (constant_found depth) t ts x e

-- the front of the tokens spells a constant
pub constant_takes : (depth : ℕ) (ts : List Token) (c : Constant) (rest : List Token) → constant_at depth ts ≡ Ok (c, rest) → (text : List Token) × Takes ts text rest × SpellsConstant depth c text
constant_takes depth ts c rest e = let f = constant_found depth ts (c, rest) e in (f.text, f.takes, f.spells)

-- ---- what is spelled is read

-- what may stand behind a constant: nothing with which it would go on
abbrev pub is_behind_constant : List Token → Bool
is_behind_constant (tokens.Dot ∷ ts) = false
is_behind_constant ts = not (begins_constant ts)

abbrev got : {A : Type 0} → A → List Token → Result (A × List Token) Fault
got x rest = Ok (x, rest)

own_name : (n : ℕ) (ts : List Token) → is_behind_constant ts ≡ true → reference_behind n ts ≡ got (references.Own n) ts
own_name n [] h = refl
own_name n (tokens.Dot ∷ ts) h = absurd cc
own_name n (t ∷ ts) h = refl

none_begins : (ts : List Token) → is_behind_constant ts ≡ true → begins_constant ts ≡ false
none_begins [] h = refl
none_begins (tokens.Dot ∷ ts) h = refl
none_begins (t ∷ ts) h = not-true (begins_constant (t ∷ ts)) h

named_read : (depth : ℕ) (r : Reference) (rest : List Token) → is_behind_constant rest ≡ true → constant_at (suc depth) (reference_spelling r ++ rest) ≡ got (constants.Named r) rest
unfolding nested constant_behind chosen_behind
named_read depth (references.Own n) rest h = rw (own_name n rest h, none_begins rest h) refl
named_read depth (references.Other p n) rest h = rw (none_begins rest h) refl

-- a constant begins, and so no dot stands there
own_before : (n : ℕ) (ts : List Token) → begins_constant ts ≡ true → reference_behind n ts ≡ got (references.Own n) ts
own_before n [] h = absurd cc
own_before n (tokens.Dot ∷ ts) h = absurd cc
own_before n (t ∷ ts) h = refl

chosen_read : (depth : ℕ) (r : Reference) (c : Constant) (ts rest : List Token) → begins_constant ts ≡ true → constant_at depth ts ≡ got c rest → constant_at (suc depth) (reference_spelling r ++ ts) ≡ got constants.Other rest
unfolding nested constant_behind chosen_behind
chosen_read depth (references.Own n) c ts rest b h = rw (own_before n ts b, b, h) refl
chosen_read depth (references.Other p n) c ts rest b h = rw (b, h) refl

reference_begins : (r : Reference) (tail : List Token) → begins_constant (reference_spelling r ++ tail) ≡ true
reference_begins (references.Own n) tail = refl
reference_begins (references.Other p n) tail = refl

constant_begins : {depth : ℕ} {c : Constant} {text : List Token} → SpellsConstant depth c text → (rest : List Token) → begins_constant (text ++ rest) ≡ true
constant_begins (number depth n) rest = refl
constant_begins (negative depth n) rest = refl
constant_begins (quoted depth n) rest = refl
constant_begins (is_true depth) rest = refl
constant_begins (is_false depth) rest = refl
constant_begins (named depth r) rest = reference_begins r rest
constant_begins (chosen depth r c text s) rest = ap begins_constant (append_assoc (reference_spelling r) text rest) ∙ reference_begins r (text ++ rest)
constant_begins (nothing depth) rest = refl
constant_begins (listed_elements depth count text few s) rest = refl

element_begins : {depth : ℕ} {text : List Token} → SpellsElement depth text → (rest : List Token) → begins_constant (text ++ rest) ≡ true
element_begins (alone depth c text s) rest = constant_begins s rest
element_begins (component depth c d text other s t) rest = ap begins_constant (append_assoc text (tokens.Colon ∷ other) rest) ∙ constant_begins s (tokens.Colon ∷ other ++ rest)

elements_begin : {depth count : ℕ} {text : List Token} → SpellsElements depth count text → (rest : List Token) → begins_constant (text ++ rest) ≡ true
elements_begin (last depth text s) rest = element_begins s rest
elements_begin (more depth count text others s t) rest = ap begins_constant (append_assoc text (tokens.Comma ∷ others) rest) ∙ element_begins s (tokens.Comma ∷ others ++ rest)

-- a comma, or the closing bracket
abbrev is_closed : List Token → Bool
is_closed (tokens.Comma ∷ ts) = true
is_closed (tokens.CloseBracket ∷ ts) = true
is_closed ts = false

closed_behind : (ts : List Token) → is_closed ts ≡ true → is_behind_constant ts ≡ true
closed_behind [] h = absurd cc
closed_behind (tokens.Comma ∷ ts) h = refl
closed_behind (tokens.CloseBracket ∷ ts) h = refl
closed_behind (t ∷ ts) h = absurd cc

no_component : (one : Reader Constant) (c : Constant) (ts : List Token) → is_closed ts ≡ true → component_behind one c ts ≡ got c ts
no_component one c [] h = absurd cc
no_component one c (tokens.Comma ∷ ts) h = refl
no_component one c (tokens.CloseBracket ∷ ts) h = refl
no_component one c (t ∷ ts) h = absurd cc

alone_read : (depth : ℕ) (c : Constant) (ts rest : List Token) → constant_at depth ts ≡ got c rest → is_closed rest ≡ true → element_at (constant_at depth) ts ≡ got c rest
unfolding element_at
alone_read depth c ts rest e h = rw e (no_component (constant_at depth) c rest h)

component_read : (depth : ℕ) (c d : Constant) (ts after rest : List Token) → constant_at depth ts ≡ got c (tokens.Colon ∷ after) → constant_at depth after ≡ got d rest → element_at (constant_at depth) ts ≡ got d rest
unfolding element_at
component_read depth c d ts after rest e f = rw e f

inside_read : (one : Reader Constant) (ts : List Token) → begins_constant ts ≡ true → elements_behind one ts ≡ (listed (element_at one) most_parts ts >>= λ elements. token_at tokens.CloseBracket reasons.NoCloseBracket elements.1 >>= λ rest. got constants.Other rest)
unfolding elements_behind
inside_read one [] h = absurd cc
inside_read one (tokens.CloseBracket ∷ ts) h = absurd cc
inside_read one (t ∷ ts) h = refl

brackets_read : (depth : ℕ) (ts : List Token) (xs : List Constant) (rest : List Token) → begins_constant ts ≡ true → listed (element_at (constant_at depth)) most_parts ts ≡ got xs (tokens.CloseBracket ∷ rest) → constant_at (suc depth) (tokens.OpenBracket ∷ ts) ≡ got constants.Other rest
unfolding nested constant_behind
brackets_read depth ts xs rest b h = inside_read (constant_at depth) ts b ∙ rw h refl

-- a constant that is read of the tokens
abbrev Reads : ℕ → List Token → List Token → Type 0
Reads depth ts rest = (x : Constant) × (element_at (constant_at depth) ts ≡ got x rest)

-- elements that are read of the tokens
abbrev ReadsAll : ℕ → ℕ → List Token → List Token → Type 0
ReadsAll depth most ts rest = (xs : List Constant) × (listed (element_at (constant_at depth)) most ts ≡ got xs rest)

last_of : (depth most : ℕ) (ts rest : List Token) → 1 ≤ most → Reads depth ts (tokens.CloseBracket ∷ rest) → ReadsAll depth most ts (tokens.CloseBracket ∷ rest)
last_of depth zero ts rest few r = absurd (omega arith)
last_of depth (suc most) ts rest few r = (r.0 ∷ [], last_read (element_at (constant_at depth)) most ts r.0 (tokens.CloseBracket ∷ rest) r.1 refl)

more_of : (depth count most : ℕ) (ts next rest : List Token) → suc count ≤ most → Reads depth ts (tokens.Comma ∷ next) → ((most : ℕ) → count ≤ most → ReadsAll depth most next (tokens.CloseBracket ∷ rest)) → ReadsAll depth most ts (tokens.CloseBracket ∷ rest)
more_of depth count zero ts next rest few r others = absurd (omega arith)
more_of depth count (suc most) ts next rest few r others =
    let o = others most (omega arith) in
    (r.0 ∷ o.0, more_read (element_at (constant_at depth)) most ts r.0 next o.0 (tokens.CloseBracket ∷ rest) r.1 o.1)

mutual
  unfolding nested constant_behind elements_behind

  pub constant_read : {depth : ℕ} {c : Constant} {text : List Token} → SpellsConstant depth c text → (rest : List Token) → is_behind_constant rest ≡ true → constant_at depth (text ++ rest) ≡ got c rest
  constant_read (number depth n) rest h = refl
  constant_read (negative depth n) rest h = refl
  constant_read (quoted depth n) rest h = refl
  constant_read (is_true depth) rest h = refl
  constant_read (is_false depth) rest h = refl
  constant_read (named depth r) rest h = named_read depth r rest h
  constant_read (chosen depth r c text s) rest h =
      ap (constant_at (suc depth)) (append_assoc (reference_spelling r) text rest) ∙ chosen_read depth r c (text ++ rest) rest (constant_begins s rest) (constant_read s rest h)
  constant_read (nothing depth) rest h = refl
  constant_read (listed_elements depth count text few s) rest h =
      let inside = text ++ tokens.CloseBracket ∷ rest in
      let all = elements_read s most_parts few rest in
      ap (λ (t : List Token). constant_at (suc depth) (tokens.OpenBracket ∷ t)) (append_assoc text (tokens.CloseBracket ∷ []) rest)
      ∙ brackets_read depth inside all.0 rest (elements_begin s (tokens.CloseBracket ∷ rest)) all.1

  element_read : {depth : ℕ} {text : List Token} → SpellsElement depth text → (rest : List Token) → is_closed rest ≡ true → Reads depth (text ++ rest) rest
  element_read (alone depth c text s) rest h = (c, alone_read depth c (text ++ rest) rest (constant_read s rest (closed_behind rest h)) h)
  element_read (component depth c d text other s t) rest h = (
    d,
    ap (element_at (constant_at depth)) (append_assoc text (tokens.Colon ∷ other) rest)
        ∙ component_read depth c d (text ++ tokens.Colon ∷ (other ++ rest)) (other ++ rest) rest (constant_read s (tokens.Colon ∷ (other ++ rest)) refl) (constant_read t rest (closed_behind rest h)),
  )

  elements_read : {depth count : ℕ} {text : List Token} → SpellsElements depth count text → (most : ℕ) → count ≤ most → (rest : List Token) → ReadsAll depth most (text ++ tokens.CloseBracket ∷ rest) (tokens.CloseBracket ∷ rest)
  elements_read (last depth text s) most few rest = last_of depth most (text ++ tokens.CloseBracket ∷ rest) rest few (element_read s (tokens.CloseBracket ∷ rest) refl)
  elements_read (more depth count text others s t) most few rest =
      let next = others ++ tokens.CloseBracket ∷ rest in
      let all = more_of depth count most (text ++ tokens.Comma ∷ next) next rest few (element_read s (tokens.Comma ∷ next) refl) (λ m k. elements_read t m k rest) in
      (all.0, ap (listed (element_at (constant_at depth)) most) (append_assoc text (tokens.Comma ∷ others) (tokens.CloseBracket ∷ rest)) ∙ all.1)
