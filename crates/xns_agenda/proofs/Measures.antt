-- How long a silent peer is borne.
use Rattle.std.proofs.Common.{◌≡◌, ◌∙◌, ap, add-one, refl, sym, subst, ℕ, zero, suc, ◌+◌, ◌-◌, ◌*◌, ◌/◌, ◌<◌, ◌≤◌, Bool, true, false, Option, Some, None, arith}
use Rattle.std.specs.Prelude.{min, max, nat_le, if◌then◌else◌}
use Rattle.std.proofs.lemmas.Bool.{leb-false, leb-true}
use Rattle.std.proofs.Math.Nat.{add-div_right, div-eq_of_lt, le-max_left, le-min, max-le, min-eq_left, min-eq_right, min-le_right}
use Rattle.xns_agenda.specs.Measuring.{borne, doubted_wait, estimate, first_wait, further_waits, most_borne, next_length, wait_by, waits_time}
use Rattle.xns_agenda.specs.declared.measure.Measure.{Measure}
use Rattle.xns_agenda.specs.declared.measure.TheConstants.Measure.{NONE}
use Rattle.xns_agenda.specs.declared.pace.Pace.{Pace}
use Rattle.xns_agenda.specs.declared.smoothed.Smoothed.{Smoothed}

-- ---- how many waits have to come, wait by wait

none_by : (b : Bool) (span length x : ℕ) → nat_le span length ≡ b → span ≤ length → 0 ≡ (if b then 0 else x)
none_by true span length x is few = refl
none_by false span length x is few = let more = leb-false span length is in absurd (omega (arith, few, more))

pub none_further : (most : ℕ) (pace : Pace) (length span : ℕ) → span ≤ length → 0 ≡ further_waits most pace length span
unfolding further_waits
none_further zero pace length span few = refl
none_further (suc n) pace length span few = none_by (nat_le span length) span length _ refl few

one_by : (b : Bool) (span length x r : ℕ) → nat_le span length ≡ b → length < span → r ≡ x → r + 1 ≡ (if b then 0 else 1 + x)
one_by true span length x r is more same = let few = leb-true span length is in absurd (omega (arith, few, more))
one_by false span length x r is more same = omega (arith, same)

pub one_further : (most : ℕ) (pace : Pace) (length span r : ℕ) → 1 ≤ length → length < span → span ≤ most
    → ((n : ℕ) → span - length ≤ n → r ≡ further_waits n pace (next_length pace length) (span - length)) → r + 1 ≡ further_waits most pace length span
unfolding further_waits
one_further zero pace length span r some more all rest = absurd (omega (arith, more, all))
one_further (suc n) pace length span r some more all rest =
    one_by (nat_le span length) span length _ r refl more (rest n (omega (arith, some, more, all)))

-- ---- where each wait is the longest

longest_by : (b : Bool) (span length x : ℕ) → nat_le span length ≡ b → 1 ≤ length → (length < span → (span - length - 1) / length ≡ x)
    → (span - 1) / length ≡ (if b then 0 else 1 + x)
longest_by true span length x is some rest = let few = leb-true span length is in div-eq_of_lt (omega (arith, some, few))
longest_by false span length x is some rest =
    let more = leb-false span length is in
    let sum : span - 1 ≡ span - length - 1 + length = omega (arith, more) in
    let one : (span - length - 1 + length) / length ≡ (span - length - 1) / length + 1 = add-div_right (span - length - 1) some in
    let same = rest more in
    let all : (span - 1) / length ≡ (span - length - 1) / length + 1 = ap (λ (n : ℕ). n / length) sum ∙ one in
    omega (arith, all, same)

pub all_longest : (most : ℕ) (pace : Pace) (length span : ℕ) → length ≡ pace.longest → 1 ≤ length → span ≤ most
    → (span - 1) / length ≡ further_waits most pace length span
unfolding further_waits
all_longest zero pace length span longest some all = div-eq_of_lt (omega (arith, some, all))
all_longest (suc n) pace length span longest some all =
    let next : next_length pace length ≡ length = min-eq_right (omega (arith, longest)) ∙ sym longest in
    let rest : length < span → (span - length - 1) / length ≡ further_waits n pace (next_length pace length) (span - length)
    = λ more. subst (λ (l : ℕ). (span - length - 1) / length ≡ further_waits n pace l (span - length)) (sym next)
    (all_longest n pace length (span - length) longest some (omega (arith, some, more, all))) in
    longest_by (nat_le span length) span length _ refl some rest

-- ---- the waits take so long, and one less does not

pub waits_more : (pace : Pace) (length k : ℕ) → waits_time pace length (k + 1) ≡ length + waits_time pace (next_length pace length) k
unfolding waits_time
waits_more pace length k = ap (waits_time pace length) (add-one k)

long_by : (b : Bool) (pace : Pace) (length span x : ℕ) → nat_le span length ≡ b
    → (length < span → span - length ≤ waits_time pace (next_length pace length) (x + 1)) → span ≤ waits_time pace length ((if b then 0 else 1 + x) + 1)
unfolding waits_time
long_by true pace length span x is rest =
    let few = leb-true span length is in
    let sum = waits_more pace length 0 in
    omega (arith, few, sum)
long_by false pace length span x is rest =
    let more = leb-false span length is in
    let after = rest more in
    let sum = waits_more pace length (1 + x) in
    let turned : waits_time pace (next_length pace length) (1 + x) ≡ waits_time pace (next_length pace length) (x + 1) = ap (waits_time pace (next_length pace length)) (omega arith) in
    omega (arith, after, sum, turned)

long_enough : (most : ℕ) (pace : Pace) (length span : ℕ) → 1 ≤ length → 1 ≤ pace.longest → span ≤ most
    → span ≤ waits_time pace length (further_waits most pace length span + 1)
unfolding further_waits
long_enough zero pace length span some longest all = omega (arith, all)
long_enough (suc n) pace length span some longest all =
    let next : 1 ≤ next_length pace length = grind arith in
    long_by (nat_le span length) pace length span _ refl
    (λ more. long_enough n pace (next_length pace length) (span - length) next longest (omega (arith, some, more, all)))

short_by : (b : Bool) (pace : Pace) (length span x k : ℕ) → nat_le span length ≡ b → k < (if b then 0 else 1 + x)
    → ((j : ℕ) → j < x → waits_time pace (next_length pace length) (j + 1) < span - length) → waits_time pace length (k + 1) < span
unfolding waits_time
short_by true pace length span x k is fewer rest = absurd (omega (arith, fewer))
short_by false pace length span x zero is fewer rest =
    let more = leb-false span length is in
    let sum = waits_more pace length 0 in
    omega (arith, more, sum)
short_by false pace length span x (suc j) is fewer rest =
    let more = leb-false span length is in
    let sum = waits_more pace length (suc j) in
    let turned : waits_time pace (next_length pace length) (suc j) ≡ waits_time pace (next_length pace length) (j + 1) = ap (waits_time pace (next_length pace length)) (sym (add-one j)) in
    let after = rest j (omega (arith, fewer)) in
    omega (arith, more, sum, turned, after)

too_short : (most : ℕ) (pace : Pace) (length span k : ℕ) → k < further_waits most pace length span → waits_time pace length (k + 1) < span
unfolding further_waits
too_short zero pace length span k fewer = absurd (omega (arith, fewer))
too_short (suc n) pace length span k fewer =
    short_by (nat_le span length) pace length span _ k refl fewer (λ j less. too_short n pace (next_length pace length) (span - length) j less)

-- more waits take no less
pub waits_grow : (pace : Pace) (length j k : ℕ) → j ≤ k → waits_time pace length j ≤ waits_time pace length k
unfolding waits_time
waits_grow pace length zero k most = omega arith
waits_grow pace length (suc i) zero most = absurd (omega (arith, most))
waits_grow pace length (suc i) (suc k) most = let rest = waits_grow pace (next_length pace length) i k (omega (arith, most)) in omega (arith, rest)

-- ---- what is borne

-- no wait has no length
some_by : (o : Option Smoothed) (doubts : ℕ) (pace : Pace) → 1 ≤ wait_by o doubts pace
some_by None doubts pace = pace.some
some_by (Some s) doubts pace =
    let some = pace.some in
    let short = pace.short in
    let ordered = pace.ordered in
    let varies = le-max_left pace.least s.varies4 in
    let expected : 1 ≤ estimate s pace.least = omega (arith, short, varies) in
    let doubted = le-max_left (estimate s pace.least) (doubted_wait pace.first doubts) in
    le-min (omega (arith, expected, doubted)) (le-min (omega (arith, some)) (omega (arith, some, ordered)))

some_wait : (m : Measure) (pace : Pace) → 1 ≤ first_wait m pace
some_wait m pace = some_by m.smoothed m.doubts pace

-- how many waits have to come after the first one
abbrev coming : Measure → Pace → ℕ
coming m pace = further_waits pace.patience pace (first_wait m pace) pace.patience

all_come : (tries waits most : ℕ) → max tries (min waits most) < most → waits ≤ max tries (min waits most)
all_come tries waits most fewer = grind arith

pub patient : (m : Measure) (pace : Pace) → borne m pace < most_borne → pace.patience ≤ waits_time pace (first_wait m pace) (borne m pace + 1)
patient m pace fewer =
    let some = pace.some in
    let ordered = pace.ordered in
    let enough = long_enough pace.patience pace (first_wait m pace) pace.patience (some_wait m pace) (omega (arith, some, ordered)) (omega arith) in
    let all : coming m pace ≤ borne m pace = all_come pace.tries (coming m pace) most_borne fewer in
    let more = waits_grow pace (first_wait m pace) (coming m pace + 1) (borne m pace + 1) (omega (arith, all)) in
    omega (arith, enough, more)

pub tried : (m : Measure) (pace : Pace) → pace.tries ≤ borne m pace
tried m pace = le-max_left pace.tries (min (coming m pace) most_borne)

pub counted : (m : Measure) (pace : Pace) → pace.tries ≤ most_borne → borne m pace ≤ most_borne
counted m pace few = max-le few (min-le_right (coming m pace) most_borne)

fewer_come : (tries waits most k : ℕ) → tries ≤ k → k < max tries (min waits most) → k < waits
fewer_come tries waits most k least fewer = grind arith

pub no_longer : (m : Measure) (pace : Pace) (k : ℕ) → pace.tries ≤ k → k < borne m pace → waits_time pace (first_wait m pace) (k + 1) < pace.patience
no_longer m pace k least fewer = too_short pace.patience pace (first_wait m pace) pace.patience k (fewer_come pace.tries (coming m pace) most_borne k least fewer)

-- one more wait than the tries is enough
tried_by : (b : Bool) (m : Measure) (pace : Pace) → nat_le (borne m pace) pace.tries ≡ b → pace.patience ≤ waits_time pace (first_wait m pace) (pace.tries + 1)
    → borne m pace ≤ pace.tries
tried_by true m pace is enough = leb-true (borne m pace) pace.tries is
tried_by false m pace is enough =
    let less = no_longer m pace pace.tries (omega arith) (leb-false (borne m pace) pace.tries is) in
    absurd (omega (arith, less, enough))

pub tries_alone : (m : Measure) (pace : Pace) → pace.patience ≤ waits_time pace (first_wait m pace) (pace.tries + 1) → borne m pace ≡ pace.tries
tries_alone m pace enough =
    let most = tried_by (nat_le (borne m pace) pace.tries) m pace refl enough in
    let least = tried m pace in
    omega (arith, most, least)

-- ---- with the usual numbers

doubled : (pace : Pace) (length n : ℕ) → length * 2 ≤ pace.longest → waits_time pace length (n + 1) ≡ length + waits_time pace (length * 2) n
doubled pace length n short = waits_more pace length n ∙ ap (λ (l : ℕ). length + waits_time pace l n) (min-eq_left short)

longest_on : (pace : Pace) (n : ℕ) → waits_time pace pace.longest n ≡ n * pace.longest
unfolding waits_time
longest_on pace zero = omega arith
longest_on pace (suc n) =
    let next : next_length pace pace.longest ≡ pace.longest = min-eq_right (omega arith) in
    let rest = longest_on pace n in
    let sum : waits_time pace pace.longest (suc n) ≡ pace.longest + waits_time pace pace.longest n = ap (λ (l : ℕ). pace.longest + waits_time pace l n) next in
    omega (arith, rest, sum)

usual_time : (pace : Pace) → pace.longest ≡ 8000 → waits_time pace 250 9 ≡ 39750
usual_time pace longest =
    let a = doubled pace 250 8 (omega (arith, longest)) in
    let b = doubled pace 500 7 (omega (arith, longest)) in
    let c = doubled pace 1000 6 (omega (arith, longest)) in
    let d = doubled pace 2000 5 (omega (arith, longest)) in
    let e = doubled pace 4000 4 (omega (arith, longest)) in
    let f : waits_time pace 8000 4 ≡ 32000 = ap (λ (l : ℕ). waits_time pace l 4) (sym longest) ∙ longest_on pace 4 ∙ ap (λ (l : ℕ). 4 * l) longest in
    omega (arith, a, b, c, d, e, f)

pub usual : (pace : Pace) → pace.first ≡ 250 → pace.longest ≡ 8000 → pace.tries ≡ 8 → pace.patience ≡ 32000
    → (borne NONE pace ≡ 8) × (waits_time pace (first_wait NONE pace) 9 ≡ 39750)
usual pace first longest tries patience =
    let time : waits_time pace (first_wait NONE pace) 9 ≡ 39750 = ap (λ (l : ℕ). waits_time pace l 9) first ∙ usual_time pace longest in
    let nine : waits_time pace (first_wait NONE pace) (pace.tries + 1) ≡ waits_time pace (first_wait NONE pace) 9 = ap (λ (n : ℕ). waits_time pace (first_wait NONE pace) (n + 1)) tries in
    (tries_alone NONE pace (omega (arith, time, nine, patience)) ∙ tries, time)
