-- A list of which one place is set.
use Rattle.std.proofs.Common.{◌≡◌, ◌≢◌, ◌∙◌, ◌⊎◌, ap, refl, ℕ, zero, suc, ◌<◌, true, List, [], ◌∷◌, length, get_or, Option, Some, None, slice_get, arith}
use Rattle.std.specs.Prelude.{slice_set}
use Rattle.std.specs.Option.{is_some}
use Rattle.std.proofs.lemmas.List.{get_or-set_same, length-set}
use Rattle.std.proofs.lemmas.Option.{slice_get-get_or}

pub same_or_other : (a b : ℕ) → (a ≡ b) ⊎ (a ≢ b)
same_or_other a b = grind arith

pub place_set : {X : Type 0} (xs : List X) (n : ℕ) (v : X) → n < length xs → slice_get (slice_set xs n v) n ≡ Some v
place_set xs n v less = slice_get-get_or (slice_set xs n v) n v (omega (arith, length-set xs n v, less)) ∙ ap Some (get_or-set_same xs n v v less)

pub place_other : {X : Type 0} (xs : List X) (n k : ℕ) (v : X) → k ≢ n → slice_get (slice_set xs n v) k ≡ slice_get xs k
place_other [] n k v other = refl
place_other (x ∷ xs) zero zero v other = absurd (other refl)
place_other (x ∷ xs) zero (suc k) v other = refl
place_other (x ∷ xs) (suc n) zero v other = refl
place_other (x ∷ xs) (suc n) (suc k) v other = place_other xs n k v (λ e. other (ap suc e))

pub one_place : {X : Type 0} (a b : X) (o : Option X) → o ≡ Some a → o ≡ Some b → a ≡ b
one_place a b o left right = cc

-- a number that has something in a list is a place in it
pub within : {X : Type 0} (xs : List (Option X)) (k : ℕ) → is_some (get_or xs k None) ≡ true → k < length xs
within [] k has = absurd (cc)
within (x ∷ xs) zero has = omega arith
within (x ∷ xs) (suc k) has = let less = within xs k has in omega (arith, less)
