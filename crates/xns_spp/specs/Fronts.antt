-- Lemmas on lists of which one begins the other, for the proofs of this crate and of those above it.
use Rattle.std.specs.Prelude.{◌≡◌, ◌≤◌, ℕ, ◌+◌, List, [], ◌∷◌, ◌++◌, length, map, take, drop, slice_get, Some}
use Rattle.std.specs.List.{flat_map, AllByRecursion}
use Rattle.std.proofs.Common.{refl, sym, ◌∙◌, ap, subst, append_assoc, append-nil, length-append, take-append-drop}
use Rattle.std.proofs.Math.Nat.{le-add_right}
use Rattle.std.proofs.Math.Seq.{take-append_seam}
use Rattle.std.proofs.lemmas.List.{map-append, take_more}
use Rattle.std.proofs.lemmas.List.Concat.{flat_map-append}
use Rattle.std.proofs.lemmas.Option.{slice_get_within, get_or_from_slice_get}
use Rattle.xns_spp.specs.Growth.{Begins}

pub begins_itself : {X : Type 0} (xs : List X) → Begins xs xs
begins_itself xs = ([], append-nil xs)

pub begins_then : {X : Type 0} (xs ys zs : List X) → Begins xs ys → Begins ys zs → Begins xs zs
begins_then {X} xs ys zs p q = (p.0 ++ q.0, sym (append_assoc xs p.0 q.0) ∙ (ap (λ (l : List X). l ++ q.0) p.1 ∙ q.1))

pub begins_cons : {X : Type 0} (x : X) (xs ys : List X) → Begins xs ys → Begins (x ∷ xs) (x ∷ ys)
begins_cons {X} x xs ys p = (p.0, ap (λ (l : List X). x ∷ l) p.1)

pub begins_map : {X Y : Type 0} (f : X → Y) (xs ys : List X) → Begins xs ys → Begins (map f xs) (map f ys)
begins_map f xs ys p = (map f p.0, sym (map-append f xs p.0) ∙ ap (map f) p.1)

pub begins_flat_map : {X Y : Type 0} (f : X → List Y) (xs ys : List X) → Begins xs ys → Begins (flat_map f xs) (flat_map f ys)
begins_flat_map f xs ys p = (flat_map f p.0, sym (flat_map-append f xs p.0) ∙ ap (flat_map f) p.1)

-- P holds of each element of a list's front where it holds of each element of the list
pub all_front : {X : Type 0} (P : X → Type 0) (xs more : List X) → AllByRecursion P (xs ++ more) → AllByRecursion P xs
all_front P [] more h = tt
all_front P (x ∷ xs) more h = (h.0, all_front P xs more h.1)

pub all_append : {X : Type 0} (P : X → Type 0) (xs ys : List X) → AllByRecursion P xs → AllByRecursion P ys → AllByRecursion P (xs ++ ys)
all_append P [] ys h k = k
all_append P (x ∷ xs) ys h k = (h.0, all_append P xs ys h.1 k)

pub all_weaker : {X : Type 0} (P Q : X → Type 0) → ((x : X) → P x → Q x) → (xs : List X) → AllByRecursion P xs → AllByRecursion Q xs
all_weaker P Q f [] h = tt
all_weaker P Q f (x ∷ xs) h = (f x h.0, all_weaker P Q f xs h.1)

pub front_begins : {X : Type 0} (n : ℕ) (xs : List X) → Begins (take n xs) xs
front_begins n xs = (drop n xs, take-append-drop n xs)

pub begins_length : {X : Type 0} (xs ys : List X) → Begins xs ys → length xs ≤ length ys
begins_length xs ys b = subst (λ (n : ℕ). length xs ≤ n) (sym (length-append xs b.0) ∙ ap length b.1)
    (le-add_right (length xs) (length b.0))

-- a list that begins another is its front
pub front_of : {X : Type 0} (xs ys : List X) → Begins xs ys → take (length xs) ys ≡ xs
front_of xs ys b = ap (take (length xs)) (sym b.1) ∙ take-append_seam xs b.0

-- a front with one element more
pub one_more : {X : Type 0} (xs : List X) (k : ℕ) (x : X) → slice_get xs k ≡ Some x → take (k + 1) xs ≡ take k xs ++ x ∷ []
one_more {X} xs k x h = take_more xs k x (slice_get_within xs k x h) ∙ ap (λ (y : X). take k xs ++ y ∷ [])
    (get_or_from_slice_get xs k x x h)

pub begins_more : {X : Type 0} (xs ys : List X) (x : X) → Begins xs ys → slice_get ys (length xs) ≡ Some x → Begins (xs ++ x ∷ []) ys
begins_more {X} xs ys x b h =
    let more : take (length xs + 1) ys ≡ xs ++ x ∷ [] = one_more ys (length xs) x h ∙ ap (λ (l : List X). l ++ x ∷ []) (front_of xs ys b) in
    subst (λ (l : List X). Begins l ys) more (front_begins (length xs + 1) ys)

at_length : {X : Type 0} (xs : List X) (x : X) (rest : List X) → slice_get (xs ++ x ∷ rest) (length xs) ≡ Some x
at_length [] x rest = refl
at_length (y ∷ xs) x rest = at_length xs x rest

-- the last element of a front
pub last_of : {X : Type 0} (xs : List X) (x : X) (ys : List X) → Begins (xs ++ x ∷ []) ys → slice_get ys (length xs) ≡ Some x
last_of {X} xs x ys b = subst (λ (l : List X). slice_get l (length xs) ≡ Some x) (sym (append_assoc xs (x ∷ []) b.0) ∙ b.1)
    (at_length xs x b.0)
