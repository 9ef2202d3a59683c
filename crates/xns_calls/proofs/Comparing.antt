-- What comparisons of numbers tell.
use Rattle.std.proofs.Common.{◌≡◌, refl, arith, ℕ, ◌+◌, ◌<◌, ◌≤◌, Bool, true, false, cond}
use Rattle.std.specs.Prelude.{nat_lt}
use Rattle.std.proofs.lemmas.Bool.{ltb-false, ltb-true}

pub by_both : {A B : Type 0} (P : A → B → Type 0) (p : Bool) (a b : A) (x y : B) → (p ≡ true → P a x) → (p ≡ false → P b y) → P (cond p a b) (cond p x y)
by_both P true a b x y f g = f refl
by_both P false a b x y f g = g refl

pub other_than : (a b : ℕ) → (a ≡ b → ⊥) → b ≤ a → b + 1 ≤ a
other_than a b other le = by_order (nat_lt b a) refl
  where
    by_order : (p : Bool) → nat_lt b a ≡ p → b + 1 ≤ a
    by_order true more = omega (arith, ltb-true b a more)
    by_order false less = absurd (other (omega (arith, le, ltb-false b a less)))

pub not_less : (a b : ℕ) → (a < b → ⊥) → b ≤ a
not_less a b never = by_order (nat_lt a b) refl
  where
    by_order : (p : Bool) → nat_lt a b ≡ p → b ≤ a
    by_order true lt = absurd (never (ltb-true a b lt))
    by_order false le = ltb-false a b le
