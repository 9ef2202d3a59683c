-- One number's time beside the others'.
use Rattle.std.proofs.Common.{◌≡◌, ◌≢◌, ◌∙◌, ◌⊎◌, inl, inr, sym, ap, subst, ℕ, ◌<◌, ◌≤◌, List, length, replicate, get_or, Option, Some, None, slice_get, arith}
use Rattle.std.specs.Prelude.{slice_set}
use Rattle.std.proofs.lemmas.List.{get_or-set_same, length-set, set-get_or, set-set}
use Rattle.std.proofs.lemmas.Option.{get_or_from_slice_get, slice_get_within}
use Rattle.xns_agenda.specs.Times.{HasEarliest, HasNoneBy, IsBeside, IsEarliest}
use Rattle.xns_agenda.proofs.Putting.{one_place, place_other, place_set, same_or_other}
use Rattle.xns_agenda.proofs.Tree.{no_times, same_leaf}

abbrev Time : Type 0
Time = Option ℕ

abbrev never : Time
never = None

-- a time of all is the one beside, or one of the others'
one_of : (others : List Time) (n k t : ℕ) (v : Time) → slice_get (slice_set others n v) k ≡ Some (Some t) → (v ≡ Some t) ⊎ (slice_get others k ≡ Some (Some t))
one_of others n k t v is = by (same_or_other k n) where
  by : (k ≡ n) ⊎ (k ≢ n) → (v ≡ Some t) ⊎ (slice_get others k ≡ Some (Some t))
  by (inl e) =
      let here : slice_get (slice_set others n v) n ≡ Some (Some t) = subst (λ (m : ℕ). slice_get (slice_set others n v) m ≡ Some (Some t)) e is in
      let within : n < length (slice_set others n v) = slice_get_within (slice_set others n v) n (Some t) here in
      let less : n < length others = omega (arith, length-set others n v, within) in
      inl (one_place v (Some t) (slice_get (slice_set others n v) n) (place_set others n v less) here)
  by (inr other) = inr (sym (place_other others n k v other) ∙ is)

-- a number that has a time among the others is another number
another : (others : List Time) (n k t : ℕ) → get_or others n None ≡ None → slice_get others k ≡ Some (Some t) → k ≢ n
another others n k t none there = λ e.
    let some : get_or others k None ≡ Some t = get_or_from_slice_get others k (Some t) None there in
    let same : get_or others n None ≡ Some t = subst (λ (m : ℕ). get_or others m None ≡ Some t) e some in
    absurd (cc)

-- the first of the others, where the one beside is no earlier
pub first_of_others : (others : List Time) (n k t : ℕ) (v : Time) → get_or others n None ≡ None → IsEarliest others k t → ((u : ℕ) → v ≡ Some u → t ≤ u)
    → IsEarliest (slice_set others n v) k t
first_of_others others n k t v none is later = record {
  there = place_other others n k v (another others n k t none is.there) ∙ is.there;
  least = record { least = λ j u there. by j u (one_of others n j u v there) };
} where
  by : (j u : ℕ) → (v ≡ Some u) ⊎ (slice_get others j ≡ Some (Some u)) → t ≤ u
  by j u (inl e) = later u e
  by j u (inr e) = is.least.least j u e

-- the one beside, where the others are later
pub first_beside : (others : List Time) (n u : ℕ) → n < length others → HasNoneBy others u → IsEarliest (slice_set others n (Some u)) n u
first_beside others n u less after = record {
  there = place_set others n (Some u) less;
  least = record { least = λ j t there. by j t (one_of others n j t (Some u) there) };
} where
  by : (j t : ℕ) → (◌≡◌ {A = Time} (Some u) (Some t)) ⊎ (slice_get others j ≡ Some (Some t)) → u ≤ t
  by j t (inl e) = let same : u ≡ t = cc in omega (arith, same)
  by j t (inr e) = let later : u < t = after.after j t e in omega (arith, later)

pub none_by : (others : List Time) (n now : ℕ) (v : Time) → HasNoneBy others now → ((u : ℕ) → v ≡ Some u → now < u) → HasNoneBy (slice_set others n v) now
none_by others n now v after later = record { after = λ k t there. by k t (one_of others n k t v there) } where
  by : (k t : ℕ) → (v ≡ Some t) ⊎ (slice_get others k ≡ Some (Some t)) → now < t
  by k t (inl e) = later t e
  by k t (inr e) = after.after k t e

pub none_at_all : (others : List Time) (n : ℕ) → HasEarliest others None → HasEarliest (slice_set others n None) None
none_at_all others n none = record { least = λ k t there. by k t (one_of others n k t None there) } where
  by : (k t : ℕ) → (◌≡◌ {A = Time} None (Some t)) ⊎ (slice_get others k ≡ Some (Some t)) → ⊥
  by k t (inl e) = absurd (cc)
  by k t (inr e) = none.least k t e

-- ---- the one beside changes

pub put_nothing : (others : List Time) (n : ℕ) → get_or others n None ≡ None → others ≡ slice_set others n None
put_nothing others n none = subst (λ (z : Time). others ≡ slice_set others n z) none (sym (set-get_or others n None))

-- a time that another number has is set again
pub other_again : (others : List Time) (n k : ℕ) (v t u : Time) → k ≢ n → slice_get others k ≡ Some u → u ≡ t → slice_set others n v ≡ slice_set (slice_set others n v) k t
other_again others n k v t u other is same = same_leaf (slice_set others n v) k t (place_other others n k v other ∙ is ∙ ap Some same)

-- the one beside is set
pub set_again : (others : List Time) (n k : ℕ) (v t : Time) → k ≡ n → slice_set others n t ≡ slice_set (slice_set others n v) k t
set_again others n k v t same = sym (ap (λ (j : ℕ). slice_set (slice_set others n v) j t) same ∙ set-set others n v t)

-- another number's time is taken out of the tree, and set beside it
pub all_again : (others : List Time) (n k : ℕ) (v t : Time) → slice_set (slice_set (slice_set others n v) k None) k t ≡ slice_set (slice_set others n v) k t
all_again others n k v t = set-set (slice_set others n v) k None t

-- ---- the one beside is no earlier

pub no_later : (t time : ℕ) → t ≤ time → (u : ℕ) → ◌≡◌ {A = Time} (Some time) (Some u) → t ≤ u
no_later t time by u e = let same : time ≡ u = cc in omega (arith, same, by)

pub nothing_beside : (t : ℕ) (v : Time) → v ≡ None → (u : ℕ) → v ≡ Some u → t ≤ u
nothing_beside t v none u e = absurd (cc)

pub nothing_after : (now : ℕ) (v : Time) → v ≡ None → (u : ℕ) → v ≡ Some u → now < u
nothing_after now v none u e = absurd (cc)

pub later_than : (now time : ℕ) (v : Time) → v ≡ Some time → now < time → (u : ℕ) → v ≡ Some u → now < u
later_than now time v is later u e = let same : time ≡ u = cc in omega (arith, same, later)

pub later_too : (t now : ℕ) (v : Time) → t ≤ now → ((u : ℕ) → v ≡ Some u → now < u) → (u : ℕ) → v ≡ Some u → t ≤ u
later_too t now v by later u e = let more : now < u = later u e in omega (arith, by, more)
