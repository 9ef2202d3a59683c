-- Resolutions of times: how many units a second has; and that what options give does not depend on the bound on their number.
use Rattle.std.proofs.Common.{◌≡◌, lit≤, refl, ap, sym, ◌∙◌, arith, ℕ, zero, suc, ◌+◌, ◌-◌, ◌*◌, ◌/◌, ◌%◌, ◌^◌, ◌<◌, ◌≤◌, true, false, cond, nat_lt, ◌&&◌, ◌==◌, List, length, drop, length-drop, Option, Some, None}
use Rattle.std.proofs.Math.Nat.{mod-eq_of_lt, pow-suc}
use Rattle.std.proofs.lemmas.Nat.{pow_below}
use Rattle.std.proofs.lemmas.Bool.{cond-true, cond-false, eq-eqb, le-ltb, lt-ltb, ne_eqb}
use Rattle.std.specs.Prelude.{slice_index}
use Rattle.xns_captures.specs.Places.{word_in_order}
use Rattle.xns_captures.specs.Times.{by_option, resolution_of, resolution_within, units_of_second}
use Rattle.xns_captures.specs.declared.byte_order.ByteOrder.{ByteOrder}

-- ---- the units of a second

pub ten_pos : (k : ℕ) → 0 < 10 ^ k
ten_pos zero = lit≤ tt
ten_pos (suc k) = omega (arith, pow-suc 10 k, ten_pos k)

abbrev behind_decimal : ℕ → Option ℕ
behind_decimal r = cond (nat_lt r 128) None (cond (nat_lt r 192) (Some (2 ^ (r - 128))) None)

pub decimal_units : (r : ℕ) → r < 20 → units_of_second r ≡ Some (10 ^ r)
unfolding units_of_second
decimal_units r h = cond-true (nat_lt r 20) (Some (10 ^ r)) (behind_decimal r) (lt-ltb r 20 h)

no_decimal : (r : ℕ) → 20 ≤ r → units_of_second r ≡ behind_decimal r
unfolding units_of_second
no_decimal r h = cond-false (nat_lt r 20) (Some (10 ^ r)) (behind_decimal r) (le-ltb r 20 h)

pub no_units_between : (r : ℕ) → 20 ≤ r → r < 128 → units_of_second r ≡ None
no_units_between r h k =
    no_decimal r h ∙ cond-true (nat_lt r 128) None (cond (nat_lt r 192) (Some (2 ^ (r - 128))) None) (lt-ltb r 128 k)

no_gap : (r : ℕ) → 128 ≤ r → units_of_second r ≡ cond (nat_lt r 192) (Some (2 ^ (r - 128))) None
no_gap r h =
    no_decimal r (omega arith) ∙ cond-false (nat_lt r 128) None (cond (nat_lt r 192) (Some (2 ^ (r - 128))) None) (le-ltb r 128 h)

pub no_units_behind : (r : ℕ) → 192 ≤ r → units_of_second r ≡ None
no_units_behind r h = no_gap r (omega arith) ∙ cond-false (nat_lt r 192) (Some (2 ^ (r - 128))) None (le-ltb r 192 h)

pub binary_units : (r : ℕ) → 128 ≤ r → r < 192 → units_of_second r ≡ Some (1 * 2 ^ (r - 128) % 18446744073709551616)
binary_units r h k =
    let p : r - 128 < 64 = omega arith in
    let small : 2 ^ (r - 128) < 18446744073709551616 = pow_below (r - 128) 64 p in
    no_gap r h ∙ cond-true (nat_lt r 192) (Some (2 ^ (r - 128))) None (lt-ltb r 192 k)
    ∙ ap Some (sym (ap (λ n. n % 18446744073709551616) (one_times (2 ^ (r - 128))) ∙ mod-eq_of_lt small))
  where
    one_times : (n : ℕ) → 1 * n ≡ n
    one_times n = omega arith

-- ---- options

-- options of that order give this resolution, within any bound that they are shorter than
abbrev pub Gives : ByteOrder → List ℕ → ℕ → Type 0
Gives order options given = (more : ℕ) × (length options ≤ more) × (resolution_within more order options ≡ given)

pub gives-first : (order : ByteOrder) (options : List ℕ) → Gives order options (resolution_of order options)
gives-first order options = (length options, omega arith, refl)

pub gives-short : (order : ByteOrder) (options : List ℕ) (given : ℕ) → length options < 4 → Gives order options given → 6 ≡ given
gives-short order options given short (zero, few, is) = is
gives-short order options given short (suc more, few, is) =
    sym (cond-true (nat_lt (length options) 4) 6 (by_option order options (resolution_within more order)) (lt-ltb (length options) 4 short)) ∙ is

-- with a bound on the options behind the first
gives-option : (order : ByteOrder) (options : List ℕ) (given : ℕ) → 4 ≤ length options → Gives order options given
    → (more : ℕ) × (length options ≤ more + 1) × (by_option order options (resolution_within more order) ≡ given)
gives-option order options given long (zero, few, is) = absurd (omega arith)
gives-option order options given long (suc more, few, is) = (
  more,
  omega arith,
  sym (cond-false (nat_lt (length options) 4) 6 (by_option order options (resolution_within more order)) (le-ltb (length options) 4 long)) ∙ is,
)

pub gives-end : (order : ByteOrder) (options : List ℕ) (given : ℕ) → 4 ≤ length options → Gives order options given
    → word_in_order order options 0 ≡ 0 → 6 ≡ given
gives-end order options given long g end =
    let o = gives-option order options given long g in
    sym (ap (λ p. cond p 6 (cond (word_in_order order options 0 == 9 && word_in_order order options 2 == 1) (slice_index options 4)
    (resolution_within o.0 order (drop (4 + (word_in_order order options 2 + 3) / 4 * 4) options)))) (eq-eqb (word_in_order order options 0) 0 end)) ∙ o.2

pub gives-value : (order : ByteOrder) (options : List ℕ) (given : ℕ) → 4 ≤ length options → Gives order options given
    → (word_in_order order options 0 ≡ 0 → ⊥) → (word_in_order order options 0 == 9 && word_in_order order options 2 == 1) ≡ true
    → slice_index options 4 ≡ given
gives-value order options given long g end value =
    let o = gives-option order options given long g in
    let rest = resolution_within o.0 order (drop (4 + (word_in_order order options 2 + 3) / 4 * 4) options) in
    sym (ap (λ p. cond p 6 (cond (word_in_order order options 0 == 9 && word_in_order order options 2 == 1) (slice_index options 4) rest)) (ne_eqb (word_in_order order options 0) 0 end)
    ∙ ap (λ p. cond p (slice_index options 4) rest) value) ∙ o.2

pub gives-rest : (order : ByteOrder) (options : List ℕ) (given : ℕ) → 4 ≤ length options → Gives order options given
    → (word_in_order order options 0 ≡ 0 → ⊥) → (word_in_order order options 0 == 9 && word_in_order order options 2 == 1) ≡ false
    → Gives order (drop (4 + (word_in_order order options 2 + 3) / 4 * 4) options) given
gives-rest order options given long g end value =
    let o = gives-option order options given long g in
    let count = 4 + (word_in_order order options 2 + 3) / 4 * 4 in
    let rest = resolution_within o.0 order (drop count options) in (
      o.0,
      omega (arith, o.1, length-drop count options),
      sym (ap (λ p. cond p 6 (cond (word_in_order order options 0 == 9 && word_in_order order options 2 == 1) (slice_index options 4) rest)) (ne_eqb (word_in_order order options 0) 0 end)
          ∙ ap (λ p. cond p (slice_index options 4) rest) value) ∙ o.2,
    )
