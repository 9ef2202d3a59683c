-- A list that goes on with another.
use Rattle.std.proofs.Common.{refl, ◌<◌, length, arith, ◌≡◌, ℕ, zero, suc, List, [], ◌∷◌, ◌++◌, Some, sym, subst}
use Rattle.std.specs.Prelude.{slice_get}
use Rattle.xns_spp.specs.Growth.{Begins}
use Rattle.xns_spp.specs.Fronts.{begins_itself}

pub begins_same : {X : Type 0} (xs ys : List X) → ys ≡ xs → Begins xs ys
begins_same {X} xs ys h = subst (λ (l : List X). Begins xs l) (sym h) (begins_itself xs)

-- an element of a prefix
pub front_get : {X : Type 0} (xs ys : List X) (k : ℕ) (x : X) → slice_get xs k ≡ Some x → slice_get (xs ++ ys) k ≡ Some x
front_get [] ys k x h = absurd (cc)
front_get (y ∷ xs) ys zero x h = h
front_get (y ∷ xs) ys (suc k) x h = front_get xs ys k x h

pub begins_get : {X : Type 0} (xs ys : List X) (k : ℕ) (x : X) → Begins xs ys → slice_get xs k ≡ Some x → slice_get ys k ≡ Some x
begins_get {X} xs ys k x b h = subst (λ (l : List X). slice_get l k ≡ Some x) b.1 (front_get xs b.0 k x h)

pub element : {X : Type 0} (xs : List X) (k : ℕ) → k < length xs → (x : X) × (slice_get xs k ≡ Some x)
element [] k l = absurd (omega arith)
element (y ∷ xs) zero l = (y, refl)
element (y ∷ xs) (suc k) l = element xs k (omega arith)
