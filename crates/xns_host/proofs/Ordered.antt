-- The numbers from 1 to n, in any order.
use Rattle.std.proofs.Common.{zero, suc, ◌≡◌, ◌≢◌, ◌∙◌, ◌⊎◌, inl, inr, sym, ap, refl, ℕ, ◌+◌, ◌-◌, ◌<◌, ◌≤◌, ◌==◌, true, false, List, [], ◌∷◌, ◌++◌, length, replicate, get_or, arith, add-one, length-append}
use Rattle.std.specs.Prelude.{IsPermutation, slice_get, Option, Some, None, position}
use Rattle.std.specs.Option.{is_none}
use Rattle.std.proofs.lemmas.List.Quantifiers.{position-Some}
use Rattle.std.proofs.lemmas.Option.{get_or_from_slice_get, slice_get_within}
use Rattle.std.proofs.Math.ListN.{get_or-append}
use Rattle.std.proofs.Math.Seq.{get_or-append_seam}
use Rattle.std.proofs.lemmas.Bool.Decides.{Decides-eqb, eqb_tells}
use Rattle.std.proofs.lemmas.List.Sorted.{All-permutation, Contains-permutation}
use Rattle.std.proofs.lemmas.Map.Keys.{IsDistinct-IsPermutation}
use Rattle.std.proofs.lemmas.Map.Made.{AllPairs-from_IsDistinct, IsDistinct-from_AllPairs}
use Rattle.xns_host.specs.Identifiers.{IsOrder, most_id, numbers, is_free}

pub numbers_none : numbers 0 ≡ []
unfolding numbers
numbers_none = refl

pub numbers_more : (n : ℕ) → numbers (n + 1) ≡ numbers n ++ (n + 1) ∷ []
unfolding numbers
numbers_more n = rw add-one refl

length-numbers : (n : ℕ) → length (numbers n) ≡ n
unfolding numbers
length-numbers zero = refl
length-numbers (suc n) =
    let before = length-numbers n in
    let whole : length (numbers n ++ suc n ∷ []) ≡ length (numbers n) + 1 = length-append (numbers n) (suc n ∷ []) in
    omega (arith, before, whole)

last_or : (k n : ℕ) → k < suc n → (k < n) ⊎ (k ≡ n)
last_or k n h = grind (arith, h)

one_more : (xs : List ℕ) (n k d : ℕ) → length xs ≡ n → ((j : ℕ) → j < n → get_or xs j d ≡ j + 1) → k < suc n → get_or (xs ++ suc n ∷ []) k d ≡ k + 1
one_more xs n k d size before less = by (last_or k n less) where
  by : (k < n) ⊎ (k ≡ n) → get_or (xs ++ suc n ∷ []) k d ≡ k + 1
  by (inl h) = get_or-append xs (suc n ∷ []) d k (omega (arith, size, h)) ∙ before k h
  by (inr e) =
      let there : get_or (xs ++ suc n ∷ []) k d ≡ suc n = ap (λ (i : ℕ). get_or (xs ++ suc n ∷ []) i d) (e ∙ sym size) ∙ get_or-append_seam xs (suc n) [] d in
      omega (arith, there, e)

at : (n k d : ℕ) → k < n → get_or (numbers n) k d ≡ k + 1
unfolding numbers
at zero k d less = absurd (omega (arith, less))
at (suc n) k d less = one_more (numbers n) n k d (length-numbers n) (λ j h. at n j d h) less

pub in_order : (n : ℕ) → n ≡ most_id → IsOrder (numbers n)
in_order n is = record {
  distinct = λ i j d below within same.
      let size = length-numbers n in
      let one = at n i d (omega (arith, size, below, within)) in
      let two = at n j d (omega (arith, size, within)) in
      omega (arith, one, two, same, below);
  within = λ k d less. let size = length-numbers n in let one = at n k d (omega (arith, size, less)) in (omega (arith, one), omega (arith, one, size, less, is));
  each = λ id least most. let size = length-numbers n in (id - 1, omega (arith, size, least, most, is), (let one = at n (id - 1) id (omega (arith, least, most, is)) in omega (arith, one, least)));
}

flips : (x y : ℕ) → (x == y) ≡ (y == x)
flips x y = by (eqb_tells x y) (eqb_tells y x) where
  by : (((x == y) ≡ true) × (x ≡ y)) ⊎ (((x == y) ≡ false) × (x ≢ y)) → (((y == x) ≡ true) × (y ≡ x)) ⊎ (((y == x) ≡ false) × (y ≢ x)) → (x == y) ≡ (y == x)
  by (inl a) (inl b) = a.0 ∙ sym b.0
  by (inl a) (inr b) = absurd (b.1 (sym a.1))
  by (inr a) (inl b) = absurd (a.1 (sym b.1))
  by (inr a) (inr b) = a.0 ∙ sym b.0

pub permuted : (xs ys : List ℕ) → IsPermutation xs ys → IsOrder xs → IsOrder ys
permuted xs ys p o = record {
  distinct = AllPairs-from_IsDistinct {eq = ◌==◌} Decides-eqb ys (IsDistinct-IsPermutation ◌==◌ flips xs ys p (IsDistinct-from_AllPairs {eq = ◌==◌} Decides-eqb xs o.distinct));
  within = All-permutation (λ id. (1 ≤ id) × (id ≤ most_id)) xs ys p o.within;
  each = λ id least most. Contains-permutation xs ys id p (o.each id least most);
}

abbrev nobody : Option ℕ
nobody = None

none_owned : (n k : ℕ) → get_or (replicate n nobody) k None ≡ None
none_owned zero k = refl
none_owned (suc n) zero = refl
none_owned (suc n) (suc k) = none_owned n k

pub all_free : (owners : List (Option ℕ)) (n k : ℕ) → owners ≡ replicate n None → is_free owners k ≡ true
all_free owners n k is = ap (λ (xs : List (Option ℕ)). is_free xs k) is ∙ ap (λ (o : Option ℕ). is_none o) (none_owned n k)

pub all_in_order : (ids : List ℕ) → IsPermutation (numbers most_id) ids → IsOrder ids
all_in_order ids p = permuted (numbers most_id) ids p (in_order most_id refl)

pub place_within : (ahead : List ℕ) (owners : List (Option ℕ)) (place : ℕ) → position (is_free owners) ahead ≡ Some place → place < length ahead
place_within ahead owners place is = (position-Some (is_free owners) ahead place 0 is).0

pub id_within : (ahead : List ℕ) (place d : ℕ) → IsOrder ahead → place < length ahead → get_or ahead place d < 65536
id_within ahead place d o within = let bounds = o.within place d within in let most = bounds.1 in omega (arith, most)

pub id_known : (ahead : List ℕ) (place id : ℕ) → IsOrder ahead → slice_get ahead place ≡ Some id → 0 < id
id_known ahead place id o there =
    let within = slice_get_within ahead place id there in
    let least = (o.within place id within).0 in
    let is = get_or_from_slice_get ahead place id id there in
    omega (arith, least, is)
