-- The sum, word by word from the left.
use Rattle.std.proofs.Common.{◌≡◌, ℕ, ◌+◌, ◌*◌, ◌%◌, ◌<◌, List, [], ◌∷◌, ◌++◌, length, refl, sym, ap, ◌∙◌, arith, inl, inr}
use Rattle.std.specs.Prelude.{◌↔◌}
use Rattle.std.proofs.lemmas.Bool.{cases_order}
use Rattle.std.proofs.Math.Nat.{pow-suc}
use Rattle.xns_idp.specs.Checksum.{words, sum_from, cycle_checksum, AreAlike}

-- no words
pub from_nothing : (start : ℕ) → sum_from start [] ≡ start
unfolding sum_from
from_nothing start = omega arith

-- one word more
pub sum_from-cons : (start w : ℕ) (ws : List ℕ) → sum_from start (w ∷ ws) ≡ sum_from (2 * (start + w)) ws
unfolding sum_from
sum_from-cons start w ws = rw (pow-suc 2 (length ws)) (omega arith)

-- only the remainder matters
pub sum_from-mod : (a b : ℕ) (ws : List ℕ) → a % 65535 ≡ b % 65535 → sum_from a ws % 65535 ≡ sum_from b ws % 65535
sum_from-mod a b [] e = unfold sum_from in omega arith
sum_from-mod a b (w ∷ ws) e =
    ap (λ (n : ℕ). n % 65535) (sum_from-cons a w ws) ∙ sum_from-mod (2 * (a + w)) (2 * (b + w)) ws (omega arith) ∙ ap (λ (n : ℕ). n % 65535) (sym (sum_from-cons b w ws))

-- the words of one list, and then those of another
pub sum_from-append : (start : ℕ) (xs ys : List ℕ) → sum_from start (xs ++ ys) ≡ sum_from (sum_from start xs) ys
sum_from-append start [] ys = ap (λ (n : ℕ). sum_from n ys) (unfold sum_from in omega arith)
sum_from-append start (x ∷ xs) ys =
    sum_from-cons start x (xs ++ ys) ∙ sum_from-append (2 * (start + x)) xs ys ∙ ap (λ (n : ℕ). sum_from n ys) (sym (sum_from-cons start x xs))

pub words-append : (xs ys : List ℕ) → length xs % 2 ≡ 0 → words (xs ++ ys) ≡ words xs ++ words ys
words-append [] ys e = refl
words-append (a ∷ []) ys e = absurd (omega (arith, e))
words-append (a ∷ b ∷ xs) ys e = ap (λ (ws : List ℕ). (256 * a + b) ∷ ws) (words-append xs ys (omega (arith, e)))

-- the checksum is the sum from nothing
pub cycle_checksum-is : (ws : List ℕ) → cycle_checksum ws ≡ sum_from 0 ws % 65535
unfolding cycle_checksum sum_from
cycle_checksum-is ws = omega arith

-- the sum goes on from the sum of what stands before
pub goes_on : (start : ℕ) (xs ys : List ℕ) → length xs % 2 ≡ 0 → sum_from (sum_from start (words xs) % 65535) (words ys) % 65535 ≡ sum_from start (words (xs ++ ys)) % 65535
goes_on start xs ys e =
    sum_from-mod (sum_from start (words xs) % 65535) (sum_from start (words xs)) (words ys) (omega arith)
    ∙ ap (λ (n : ℕ). n % 65535) (sym (sum_from-append start (words xs) (words ys)))
    ∙ ap (λ (ws : List ℕ). sum_from start ws % 65535) (sym (words-append xs ys e))

-- doubling loses nothing modulo 65535, so a sum tells what it began with
pub sum_from-same : (a b : ℕ) (ws : List ℕ) → sum_from a ws % 65535 ≡ sum_from b ws % 65535 → a % 65535 ≡ b % 65535
sum_from-same a b [] e = unfold sum_from in omega arith
sum_from-same a b (w ∷ ws) e =
    let h = sum_from-same (2 * (a + w)) (2 * (b + w)) ws (ap (λ (n : ℕ). n % 65535) (sym (sum_from-cons a w ws)) ∙ e ∙ ap (λ (n : ℕ). n % 65535) (sum_from-cons b w ws)) in
    omega (arith, h)

alike : (v w : ℕ) → v < 65536 → w < 65536 → v % 65535 ≡ w % 65535 → AreAlike v w
alike v w hv hw e =
    elim (cases_order v w) [
      | inl same ↦ inl same
      | inr other ↦ elim other [
        | inl below ↦ inr (inl (omega arith, omega arith))
        | inr above ↦ inr (inr (omega arith, omega arith))
      ]
    ]

unlike : (v w : ℕ) → AreAlike v w → v % 65535 ≡ w % 65535
unlike v w h =
    elim h [
      | inl same ↦ ap (λ (n : ℕ). n % 65535) same
      | inr other ↦ elim other [ inl below ↦ omega (arith, below.0, below.1) | inr above ↦ omega (arith, above.0, above.1) ]
    ]

-- the sum behind a prefix
behind : (front ws : List ℕ) → cycle_checksum (front ++ ws) ≡ sum_from (sum_from 0 front) ws % 65535
behind front ws = cycle_checksum-is (front ++ ws) ∙ ap (λ (n : ℕ). n % 65535) (sum_from-append 0 front ws)

behind_one : (front back : List ℕ) (v : ℕ) → cycle_checksum (front ++ v ∷ back) ≡ sum_from (2 * (sum_from 0 front + v)) back % 65535
behind_one front back v = behind front (v ∷ back) ∙ ap (λ (n : ℕ). n % 65535) (sum_from-cons (sum_from 0 front) v back)

behind_two : (front back : List ℕ) (v w : ℕ) → cycle_checksum (front ++ v ∷ w ∷ back) ≡ sum_from (2 * (2 * (sum_from 0 front + v) + w)) back % 65535
behind_two front back v w = behind_one front (w ∷ back) v ∙ ap (λ (n : ℕ). n % 65535) (sum_from-cons (2 * (sum_from 0 front + v)) w back)

pub one_word_tells : (front back : List ℕ) (v w : ℕ) → v < 65536 → w < 65536 → (cycle_checksum (front ++ v ∷ back) ≡ cycle_checksum (front ++ w ∷ back)) ↔ AreAlike v w
one_word_tells front back v w hv hw =
    let a = sum_from 0 front in (
      λ (e : cycle_checksum (front ++ v ∷ back) ≡ cycle_checksum (front ++ w ∷ back)).
          let h : (2 * (a + v)) % 65535 ≡ (2 * (a + w)) % 65535 = sum_from-same (2 * (a + v)) (2 * (a + w)) back (sym (behind_one front back v) ∙ e ∙ behind_one front back w) in
          alike v w hv hw (omega (arith, h)),
      λ (h : AreAlike v w).
          let m = unlike v w h in
          behind_one front back v ∙ sum_from-mod (2 * (a + v)) (2 * (a + w)) back (omega (arith, m)) ∙ sym (behind_one front back w),
    )

pub exchange_tells : (front back : List ℕ) (v w : ℕ) → v < 65536 → w < 65536 → (cycle_checksum (front ++ v ∷ w ∷ back) ≡ cycle_checksum (front ++ w ∷ v ∷ back)) ↔ AreAlike v w
exchange_tells front back v w hv hw =
    let a = sum_from 0 front in
    let x = 2 * (2 * (a + v) + w) in
    let y = 2 * (2 * (a + w) + v) in (
      λ (e : cycle_checksum (front ++ v ∷ w ∷ back) ≡ cycle_checksum (front ++ w ∷ v ∷ back)).
          let h : x % 65535 ≡ y % 65535 = sum_from-same x y back (sym (behind_two front back v w) ∙ e ∙ behind_two front back w v) in
          alike v w hv hw (omega (arith, h)),
      λ (h : AreAlike v w).
          let m = unlike v w h in
          behind_two front back v w ∙ sum_from-mod x y back (omega (arith, m)) ∙ sym (behind_two front back w v),
    )
