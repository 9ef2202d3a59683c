-- Decimals.
use Rattle.std.proofs.Common.{◌≡◌, ◌∙◌, ap, sym, refl, subst, below_more, rules, arith, ℕ, zero, suc, ◌+◌, ◌-◌, ◌*◌, ◌^◌, ◌<◌, ◌≤◌, Bool, true, false, cond, List, [], ◌∷◌, ◌++◌, length, take, get_or, Option, Some, None}
use Rattle.std.specs.Prelude.{nat_le}
use Rattle.std.specs.Int.{IsInRange}
use Rattle.std.specs.Fmt.{decimal}
use Rattle.std.specs.Str.{bytes_eq}
use Rattle.std.proofs.lemmas.Bool.{le-leb, leb-true}
use Rattle.std.proofs.lemmas.Fmt.{decimal-digits_value, decimal_digit, decimal_nonempty, digits_decimal, first_decimal, length-decimal-le}
use Rattle.std.proofs.lemmas.Slice.Eq.{bytes_eq-Decides}
use Rattle.std.proofs.lemmas.Str.Parse.{IsNumeralModel, digits_value_short, numerals_by_fold, tells_by_index}
use Rattle.std.proofs.lemmas.List.{get_or-take, length-take, length-take-le, take_more}
use Rattle.xns_script.specs.Word.{AreDigits, MayBeDecimal, digits_from, number_of}

pub own : IsNumeralModel AreDigits (digits_from 0)
own = numerals_by_fold AreDigits tells_by_index digits_from (search rules)

pub digits_from-append : (n : ℕ) (ds : List ℕ) (d : ℕ) → digits_from n (ds ++ d ∷ []) ≡ 10 * digits_from n ds + (d - 48)
digits_from-append n [] d = refl
digits_from-append n (c ∷ ds) d = digits_from-append (10 * n + (c - 48)) ds d

-- what the decimal of a number is
abbrev pub IsDecimal : List ℕ → Type 0
IsDecimal word = AreDigits word × MayBeDecimal word

zero_first : (n : ℕ) → n < 2 ^ 32 → get_or (decimal n) 0 0 ≡ 48 → length (decimal n) ≡ 1
zero_first zero small e = ap length (decimal_digit 0 (omega arith))
zero_first (suc n) small e =
    let above : 48 < get_or (decimal (suc n)) 0 0 = first_decimal (suc n) (omega arith) (omega arith) in
    absurd (omega arith)

decimal_is : (n : ℕ) → n < 2 ^ 32 → IsDecimal (decimal n)
decimal_is n small =
    (digits_decimal own n (omega arith), (decimal_nonempty n (omega arith), length-decimal-le 10 n (omega arith) (omega arith) (omega arith), zero_first n small))

-- ---- the test

abbrev tested : Bool → Bool → ℕ → Option ℕ
tested p q n = cond p (cond q (Some n) None) None

not_both : (p q : Bool) (n : ℕ) → (p ≡ true → q ≡ true → ⊥) → None ≡ tested p q n
not_both true true n never = absurd (never refl refl)
not_both true false n never = refl
not_both false q n never = refl

-- a word that is no decimal, or that of a greater number
pub refused : (most : ℕ) (word : List ℕ) → most < 2 ^ 32 → (IsDecimal word → digits_from 0 word ≤ most → ⊥) → None ≡ number_of most word
unfolding number_of
refused most word small never =
    not_both (nat_le (digits_from 0 word) most) (bytes_eq (decimal (digits_from 0 word)) word) (digits_from 0 word)
    (λ p q.
    let le : digits_from 0 word ≤ most = leb-true (digits_from 0 word) most p in
    never (subst IsDecimal ((bytes_eq-Decides (decimal (digits_from 0 word)) word).0 q) (decimal_is (digits_from 0 word) (omega arith))) le)

both : (p q : Bool) (m n : ℕ) → p ≡ true → q ≡ true → n ≡ m → Some n ≡ tested p q m
both true true m n hp hq e = ap Some e
both true false m n hp hq e = cc
both false q m n hp hq e = cc

pub accepted : (most n : ℕ) (word : List ℕ) → most < 2 ^ 32 → n ≡ digits_from 0 word → IsDecimal word → n ≤ most → Some n ≡ number_of most word
unfolding number_of
accepted most n word small e d le =
    let le' : digits_from 0 word ≤ most = omega arith in
    both (nat_le (digits_from 0 word) most) (bytes_eq (decimal (digits_from 0 word)) word) (digits_from 0 word) n
    (le-leb (digits_from 0 word) most le')
    ((bytes_eq-Decides (decimal (digits_from 0 word)) word).1 (decimal-digits_value own word d.0 d.1.0 d.1.2 (omega arith)))
    e

-- ---- digit by digit

pub one_more : (word : List ℕ) (i : ℕ) → i < length word → AreDigits (take i word) → IsInRange 48 57 (get_or word i 0) → AreDigits (take (i + 1) word)
one_more word i lt digits here = λ k less.
    let le : k < i + 1 = omega (arith, length-take-le (i + 1) word (omega arith)) in
    below_more (λ j. IsInRange 48 57 (get_or (take (i + 1) word) j 0)) i
    (λ j below.
    let within : j < length (take i word) = omega (arith, length-take-le i word (omega arith)) in
    subst (λ b. IsInRange 48 57 b) (get_or-take i word j 0 below ∙ sym (get_or-take (i + 1) word j 0 (omega arith))) (digits j within))
    (subst (λ b. IsInRange 48 57 b) (sym (get_or-take (i + 1) word i 0 (omega arith))) here) k le

pub value_more : (word : List ℕ) (i n d : ℕ) → i < length word → n ≡ digits_from 0 (take i word) → d ≡ get_or word i 0 - 48 → 10 * n + d ≡ digits_from 0 (take (i + 1) word)
value_more word i n d lt e h =
    ap (λ m. 10 * m + d) e ∙ ap (λ m. 10 * digits_from 0 (take i word) + m) h ∙ sym (digits_from-append 0 (take i word) (get_or word i 0))
    ∙ ap (digits_from 0) (sym (take_more word i 0 lt))

pub small : (word : List ℕ) (i n : ℕ) → length word ≤ 10 → AreDigits (take i word) → n ≡ digits_from 0 (take i word) → n < 10 ^ 10
small word i n few digits e =
    let short : length (take i word) ≤ 10 = omega (arith, length-take i word) in
    let below : digits_from 0 (take i word) < 10 ^ 10 = digits_value_short own (take i word) 10 digits short in
    subst (λ m. m < 10 ^ 10) (sym e) below
