-- The items that are kept lie in two rows, one behind the other.
use Rattle.std.proofs.Common.{◌≡◌, ◌∙◌, ap, sym, subst, refl, arith, ℕ, ◌+◌, ◌<◌, ◌≤◌, Bool, true, false, cond, List, [], ◌∷◌, ◌++◌, length, Option, Some, None}
use Rattle.std.specs.Prelude.{nat_lt}
use Rattle.std.proofs.lemmas.Bool.{le-ltb}
use Rattle.xns_calls.specs.AtEnd.{earlier, earliest}
use Rattle.xns_calls.specs.declared.early.Early.{Early}
use Rattle.xns_calls.specs.declared.first_kept.FirstKept.{FirstKept}
use Rattle.xns_calls.specs.Queue.{below}
use Rattle.xns_calls.specs.Turns.{first_kept}

front_step : (p : Bool) (b m l : ℕ) → (b < l → m ≡ b) → cond p (1 + b) 0 < 1 + l → cond p (1 + m) 0 ≡ cond p (1 + b) 0
front_step true b m l same lt = ap (λ k. 1 + k) (same (omega (arith, lt)))
front_step false b m l same lt = refl

-- where an item of the first row has no smaller number, the second row is not looked at
pub below_front : (n : ℕ) (xs ys : List Early) → below n xs < length xs → below n (xs ++ ys) ≡ below n xs
below_front n [] ys lt = absurd (omega (arith, lt))
below_front n (e ∷ xs) ys lt = front_step (nat_lt e.number n) (below n xs) (below n (xs ++ ys)) (length xs) (below_front n xs ys) (omega (arith, lt))

all_step : (p : Bool) (b m l k : ℕ) → (l ≤ b → m ≡ b + k) → 1 + l ≤ cond p (1 + b) 0 → cond p (1 + m) 0 ≡ cond p (1 + b) 0 + k
all_step true b m l k same le = let rest : m ≡ b + k = same (omega (arith, le)) in omega (arith, rest)
all_step false b m l k same le = absurd (omega (arith, le))

-- where all of the first row have smaller numbers, those of the second row come behind them
pub below_all : (n : ℕ) (xs ys : List Early) → length xs ≤ below n xs → below n (xs ++ ys) ≡ below n xs + below n ys
below_all n [] ys le = let none : 0 + below n ys ≡ below n ys = omega arith in sym none
below_all n (e ∷ xs) ys le = all_step (nat_lt e.number n) (below n xs) (below n (xs ++ ys)) (length xs) (below n ys) (below_all n xs ys) (omega (arith, le))

-- where none is kept, none has a smaller number
pub none_first : (n : ℕ) (items : List Early) → first_kept items ≡ None → 0 ≡ below n items
none_first n [] none = refl
none_first n (e ∷ rest) none = absurd (cc)

none_step : (p : Bool) (b : ℕ) → p ≡ false → 0 ≡ cond p (1 + b) 0
none_step true b more = absurd (cc)
none_step false b more = refl

abbrev number_or : Option FirstKept → ℕ
number_or None = 0
number_or (Some first) = first.number

-- where the first has no smaller number, none has
pub none_below : (n : ℕ) (items : List Early) (first : FirstKept) → first_kept items ≡ Some first → n ≤ first.number → 0 ≡ below n items
none_below n [] first same le = refl
none_below n (e ∷ rest) first same le =
    none_step (nat_lt e.number n) (below n rest) (le-ltb e.number n (subst (λ k. n ≤ k) (sym (ap number_or same)) le))

-- ---- which of them was captured first

pub earliest_joined : (first : FirstKept) (xs ys : List Early) → earliest first (xs ++ ys) ≡ earliest (earliest first xs) ys
earliest_joined first [] ys = refl
earliest_joined first (e ∷ xs) ys = earliest_joined (earlier first e) xs ys

earlier_number : (first : FirstKept) (e : Early) → (earlier first e).number ≡ first.number
earlier_number first e = by_line (nat_lt e.item.line first.line)
  where
    by_line : (p : Bool) → (cond p (record first { acknowledged = e.item.acknowledged; line = e.item.line }) first).number ≡ first.number
    by_line true = refl
    by_line false = refl

-- the number stays that of the first item
pub earliest_number : (first : FirstKept) (items : List Early) → (earliest first items).number ≡ first.number
earliest_number first [] = refl
earliest_number first (e ∷ rest) = earliest_number (earlier first e) rest ∙ earlier_number first e
