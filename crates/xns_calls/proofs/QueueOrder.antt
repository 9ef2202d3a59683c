-- The items that are kept lie in the order of their numbers.
use Rattle.std.proofs.Common.{◌≡◌, ◌∙◌, ap, sym, refl, subst, arith, ℕ, suc, ◌+◌, ◌<◌, ◌≤◌, ◌==◌, Bool, true, false, cond, List, [], ◌∷◌, length, get_or, Option, Some, None}
use Rattle.std.specs.Prelude.{nat_lt, ◌||◌, slice_get}
use Rattle.std.specs.List.{insert, list_any}
use Rattle.std.proofs.lemmas.Bool.Decides.{nat_tests}
use Rattle.std.proofs.lemmas.Option.{slice_get_past, slice_get_read}
use Rattle.std.proofs.lemmas.Bool.{cond_both, ltb-false, ltb-true, ne_eqb, or_from}
use Rattle.std.proofs.Math.Nat.{ne_of_gt, ne_of_lt}
use Rattle.xns_calls.specs.declared.carried.Carried.{Carried}
use Rattle.xns_calls.specs.declared.early.Early.{Early}
use Rattle.xns_calls.specs.Queue.{AreOrdered, below, kept}
use Rattle.xns_calls.proofs.Known.{kept_cases}

least_ordered : (n m : ℕ) (es : List Early) → AreOrdered n es → m ≤ n → AreOrdered m es
least_ordered n m [] ordered le = tt
least_ordered n m (e ∷ rest) ordered le = (omega (arith, le, ordered.0), ordered.1)

-- what is left behind the first one
pub rest_ordered : (e : Early) (rest : List Early) → AreOrdered 0 (e ∷ rest) → AreOrdered 0 rest
rest_ordered e rest ordered = least_ordered e.number 0 rest ordered.1 (omega arith)

kept_from : (n k : ℕ) (item : Carried) (es : List Early) → AreOrdered n es → n ≤ k → AreOrdered n (kept k item es)
kept_from n k item [] ordered le = (le, tt)
kept_from n k item (e ∷ rest) ordered le =
    subst (AreOrdered n) (sym (kept_cases (nat_lt e.number k) k item e rest refl))
    (cond_both (nat_lt e.number k) (e ∷ kept k item rest) (record { number = k; item = item } ∷ e ∷ rest) (AreOrdered n)
    (λ less. (ordered.0, kept_from e.number k item rest ordered.1 (omega (arith, ltb-true e.number k less))))
    (λ more. (le, (ltb-false e.number k more, ordered.1))))

-- one item more is kept
pub kept_ordered : (k : ℕ) (item : Carried) (es : List Early) → AreOrdered 0 es → AreOrdered 0 (kept k item es)
kept_ordered k item es ordered = kept_from 0 k item es ordered (omega arith)

-- an item comes first where none that is kept has a number below its own
pub kept_before : (k : ℕ) (item : Carried) (es : List Early) → 0 ≡ below k es → record { number = k; item = item } ∷ es ≡ kept k item es
kept_before k item es none = ap (λ (i : ℕ). insert es i (record { number = k; item = item })) none

first_ordered : (k : ℕ) (item : Carried) (es : List Early) → AreOrdered 0 es → 0 ≡ below k es → AreOrdered 0 (record { number = k; item = item } ∷ es)
first_ordered k item es ordered none = subst (AreOrdered 0) (sym (kept_before k item es none)) (kept_ordered k item es ordered)

-- what is kept is ordered where such an item was put first, and where nothing changed
pub kept_or_same : (p : Bool) (k : ℕ) (item : Carried) (es seen now : List Early) → AreOrdered 0 es → es ≡ seen → 0 ≡ below k seen
    → now ≡ cond p (record { number = k; item = item } ∷ es) es → AreOrdered 0 now
kept_or_same true k item es seen now ordered same none is =
    subst (AreOrdered 0) (sym is) (first_ordered k item es ordered (none ∙ ap (below k) (sym same)))
kept_or_same false k item es seen now ordered same none is = subst (AreOrdered 0) (sym is) ordered

-- ---- whether one has a number

above : (a b : ℕ) → b ≤ a → (a == b) ≡ false → b < a
above a b le other = grind (arith, nat_tests)

-- no item has a number below the first one's
none_has : (n m : ℕ) (es : List Early) → AreOrdered n es → m < n → list_any (λ early. early.number == m) es ≡ false
none_has n m [] ordered lt = refl
none_has n m (e ∷ rest) ordered lt =
    or_from (e.number == m) (list_any (λ early. early.number == m) rest) (ne_eqb e.number m (ne_of_gt (omega (arith, lt, ordered.0))))
    (none_has e.number m rest ordered.1 (omega (arith, lt, ordered.0)))

abbrev is_number : ℕ → Option Early → Bool
is_number m None = false
is_number m (Some e) = e.number == m

first_or_none : (p q : Bool) → (p ≡ false → q ≡ false) → (p || q) ≡ p
first_or_none true q none = refl
first_or_none false q none = none refl

has_first : (m : ℕ) (e : Early) (rest : List Early) (p : Bool) → AreOrdered e.number rest → nat_lt e.number m ≡ p
    → list_any (λ early. early.number == m) rest ≡ is_number m (slice_get rest (below m rest))
    → (e.number == m || list_any (λ early. early.number == m) rest) ≡ is_number m (slice_get (e ∷ rest) (cond p (1 + below m rest) 0))
has_first m e rest true ordered less has_rest =
    let one : 1 + below m rest ≡ suc (below m rest) = omega arith in
    ap (λ p. p || list_any (λ early. early.number == m) rest) (ne_eqb e.number m (ne_of_lt (ltb-true e.number m less)))
    ∙ has_rest
    ∙ ap (λ i. is_number m (slice_get (e ∷ rest) i)) (sym one)
has_first m e rest false ordered more has_rest =
    first_or_none (e.number == m) (list_any (λ early. early.number == m) rest)
    (λ other. none_has e.number m rest ordered (above e.number m (ltb-false e.number m more) other))

has_in : (n m : ℕ) (es : List Early) → AreOrdered n es → list_any (λ early. early.number == m) es ≡ is_number m (slice_get es (below m es))
has_in n m [] ordered = refl
has_in n m (e ∷ rest) ordered = has_first m e rest (nat_lt e.number m) ordered.1 refl (has_in e.number m rest ordered.1)

-- the first item whose number is not below this number has it, or none does
has_at : (m i : ℕ) (es now : List Early) (found : Option Early) → AreOrdered 0 es → es ≡ now → i ≡ below m now → slice_get es i ≡ found
    → is_number m found ≡ list_any (λ early. early.number == m) now
has_at m i es now found ordered same place at =
    let here : slice_get now (below m now) ≡ found = subst (λ k. slice_get now k ≡ found) place (subst (λ (l : List Early). slice_get l i ≡ found) same at) in
    sym (ap (is_number m) here) ∙ sym (has_in 0 m now (subst (AreOrdered 0) same ordered))

-- an item stands where the numbers below it end
pub has_some : (m i n : ℕ) (e : Early) (es now : List Early) → AreOrdered 0 es → es ≡ now → i ≡ below m now → i < length es → e ≡ get_or es i e → n ≡ e.number
    → (n == m) ≡ list_any (λ early. early.number == m) now
has_some m i n e es now ordered same place lt read number =
    ap (λ k. k == m) number ∙ has_at m i es now (Some e) ordered same place (slice_get_read es (length es) i e refl lt read)

-- all numbers are below it
pub has_none : (m i : ℕ) (es now : List Early) → AreOrdered 0 es → es ≡ now → i ≡ below m now → length es ≤ i → false ≡ list_any (λ early. early.number == m) now
has_none m i es now ordered same place le = has_at m i es now None ordered same place (slice_get_past es i le)
