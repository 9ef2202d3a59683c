-- The tree above the times: its first node has the earliest.
use Rattle.std.proofs.Common.{zero, suc, ◌≡◌, ◌≢◌, ◌∙◌, ◌⊎◌, inl, inr, sym, ap, subst, refl, ℕ, ◌+◌, ◌-◌, ◌*◌, ◌/◌, ◌<◌, ◌≤◌, Bool, true, false, List, length, replicate, get_or, Option, Some, None, slice_get, arith}
use Rattle.std.specs.Prelude.{nat_le, nat_lt, slice_set, if◌then◌else◌}
use Rattle.std.proofs.lemmas.Bool.{leb-false, leb-true, lt-ltb, ltb-true}
use Rattle.std.proofs.lemmas.List.{get_or-set_other, get_or-set_same, length-set, set-get_or}
use Rattle.std.proofs.lemmas.Option.{get_or_from_slice_get, slice_get-get_or, slice_get_within}
use Rattle.xns_agenda.specs.Times.{IsBy, HasEarliest, HasNoneBy, IsTree, IsTreeBut, node, sooner}

abbrev Time : Type 0
Time = Option ℕ

abbrev never : Time
never = None

-- ---- nodes

inner_by : (b : Bool) (tree times : List Time) (i : ℕ) → nat_lt i (length tree) ≡ b → i < length tree → (if b then get_or tree i None else get_or times (i - length tree) None) ≡ get_or tree i None
inner_by true tree times i test less = refl
inner_by false tree times i test less = let t = lt-ltb i (length tree) less in absurd (cc)

pub inner : (tree times : List Time) (i : ℕ) → i < length tree → node tree times i ≡ get_or tree i None
inner tree times i less = inner_by (nat_lt i (length tree)) tree times i refl less

outer_by : (b : Bool) (tree times : List Time) (i : ℕ) → nat_lt i (length tree) ≡ b → length tree ≤ i → (if b then get_or tree i None else get_or times (i - length tree) None) ≡ get_or times (i - length tree) None
outer_by true tree times i test more = let less = ltb-true i (length tree) test in absurd (omega (arith, less, more))
outer_by false tree times i test more = refl

pub outer : (tree times : List Time) (i : ℕ) → length tree ≤ i → node tree times i ≡ get_or times (i - length tree) None
outer tree times i more = outer_by (nat_lt i (length tree)) tree times i refl more

cases : (a b : ℕ) → (a < b) ⊎ (b ≤ a)
cases a b = grind arith

halves : (i : ℕ) → (i ≡ 2 * (i / 2)) ⊎ (i ≡ 2 * (i / 2) + 1)
halves i = grind arith

-- a write at another node
tree_other : (tree times : List Time) (p : ℕ) (v : Time) (j : ℕ) → j ≢ p → node (slice_set tree p v) times j ≡ node tree times j
tree_other tree times p v j other = by (cases j (length tree)) where
  size : length (slice_set tree p v) ≡ length tree
  size = length-set tree p v

  by : (j < length tree) ⊎ (length tree ≤ j) → node (slice_set tree p v) times j ≡ node tree times j
  by (inl less) = inner (slice_set tree p v) times j (omega (arith, size, less)) ∙ get_or-set_other tree p j v None other ∙ sym (inner tree times j less)
  by (inr more) = outer (slice_set tree p v) times j (omega (arith, size, more)) ∙ ap (λ (n : ℕ). get_or times (j - n) None) size ∙ sym (outer tree times j more)

times_other : (tree times : List Time) (k : ℕ) (v : Time) (j : ℕ) → j ≢ length tree + k → node tree (slice_set times k v) j ≡ node tree times j
times_other tree times k v j other = by (cases j (length tree)) where
  by : (j < length tree) ⊎ (length tree ≤ j) → node tree (slice_set times k v) j ≡ node tree times j
  by (inl less) = inner tree (slice_set times k v) j less ∙ sym (inner tree times j less)
  by (inr more) = outer tree (slice_set times k v) j more ∙ get_or-set_other times k (j - length tree) v None (λ e. other (omega (arith, e, more))) ∙ sym (outer tree times j more)

-- ---- a tree is mended

pub changed_leaf : (tree times : List Time) (k : ℕ) (v : Time) → IsTree tree times → IsTreeBut tree (slice_set times k v) (length tree + k)
changed_leaf tree times k v t = record {
  same = t.same ∙ sym (length-set times k v);
  rule = λ i some less left right.
      let one : node tree (slice_set times k v) (2 * i) ≡ node tree times (2 * i) = times_other tree times k v (2 * i) (λ e. left (sym e)) in
      let two : node tree (slice_set times k v) (2 * i + 1) ≡ node tree times (2 * i + 1) = times_other tree times k v (2 * i + 1) (λ e. right (sym e)) in
      t.rule i some less ∙ ap (λ x. sooner x (node tree times (2 * i + 1))) (sym one) ∙ ap (sooner (node tree (slice_set times k v) (2 * i))) (sym two);
}

-- a time that stands is set again
pub same_leaf : (times : List Time) (k : ℕ) (t : Time) → slice_get times k ≡ Some t → times ≡ slice_set times k t
same_leaf times k t here =
    subst (λ (z : Time). times ≡ slice_set times k z) (get_or_from_slice_get times k t None here) (sym (set-get_or times k None))

module _ (tree times : List Time) (at p : ℕ) (v : Time) (b : IsTreeBut tree times at) (half : (at ≡ 2 * p) ⊎ (at ≡ 2 * p + 1)) (some : 1 ≤ p) (within : p < length tree)
    (is : v ≡ sooner (node tree times (2 * p)) (node tree times (2 * p + 1))) where
  size : length (slice_set tree p v) ≡ length tree
  size = length-set tree p v

  below : (i : ℕ) → p ≢ 2 * i → p ≢ 2 * i + 1 → sooner (node tree times (2 * i)) (node tree times (2 * i + 1)) ≡ sooner (node (slice_set tree p v) times (2 * i)) (node (slice_set tree p v) times (2 * i + 1))
  below i left right =
      ap (λ x. sooner x (node tree times (2 * i + 1))) (sym (tree_other tree times p v (2 * i) (λ e. left (sym e))))
      ∙ ap (sooner (node (slice_set tree p v) times (2 * i))) (sym (tree_other tree times p v (2 * i + 1) (λ e. right (sym e))))

  apart : (i : ℕ) → i ≢ p → (at ≢ 2 * i) × (at ≢ 2 * i + 1)
  apart i other = by half where
    by : (at ≡ 2 * p) ⊎ (at ≡ 2 * p + 1) → (at ≢ 2 * i) × (at ≢ 2 * i + 1)
    by (inl e) = ((λ f. other (omega (arith, e, f))), (λ f. absurd (omega (arith, e, f))))
    by (inr e) = ((λ f. absurd (omega (arith, e, f))), (λ f. other (omega (arith, e, f))))

  same_or : (i : ℕ) → (i ≡ p) ⊎ (i ≢ p)
  same_or i = grind arith

  pub mended : IsTreeBut (slice_set tree p v) times p
  mended = record {
    same = size ∙ b.same;
    rule = λ i least less left right. by i least less left right (same_or i);
  } where
    by : (i : ℕ) → 1 ≤ i → i < length (slice_set tree p v) → p ≢ 2 * i → p ≢ 2 * i + 1 → (i ≡ p) ⊎ (i ≢ p)
        → get_or (slice_set tree p v) i None ≡ sooner (node (slice_set tree p v) times (2 * i)) (node (slice_set tree p v) times (2 * i + 1))
    by i least less left right (inl e) =
        ap (λ (n : ℕ). get_or (slice_set tree p v) n None) e ∙ get_or-set_same tree p v None within ∙ is
        ∙ ap (λ (n : ℕ). sooner (node tree times (2 * n)) (node tree times (2 * n + 1))) (sym e) ∙ below i left right
    by i least less left right (inr other) =
        let far = apart i other in
        get_or-set_other tree p i v None other ∙ b.rule i least (omega (arith, size, less)) far.0 far.1 ∙ below i left right

  -- where the node above is right, all are
  pub settled : get_or tree p None ≡ v → IsTree tree times
  settled here = record {
    same = b.same;
    rule = λ i least less. by i least less (same_or i);
  } where
    by : (i : ℕ) → 1 ≤ i → i < length tree → (i ≡ p) ⊎ (i ≢ p)
        → get_or tree i None ≡ sooner (node tree times (2 * i)) (node tree times (2 * i + 1))
    by i least less (inl e) = subst
        (λ (n : ℕ). get_or tree n None ≡ sooner (node tree times (2 * n)) (node tree times (2 * n + 1))) (sym e) (here ∙ is)
    by i least less (inr other) = let far = apart i other in b.rule i least less far.0 far.1

pub mended_above : (tree times : List Time) (at : ℕ) (v : Time) → IsTreeBut tree times at → 2 ≤ at → at < length tree + length times
    → v ≡ sooner (node tree times (2 * (at / 2))) (node tree times (2 * (at / 2) + 1)) → IsTreeBut (slice_set tree (at / 2) v) times (at / 2)
mended_above tree times at v b two within is =
    let same : length tree ≡ length times = b.same in
    mended tree times at (at / 2) v b (halves at) (omega (arith, two)) (omega (arith, two, within, same)) is

pub stopped_above : (tree times : List Time) (at : ℕ) (v : Time) → IsTreeBut tree times at → 2 ≤ at → at < length tree + length times
    → v ≡ sooner (node tree times (2 * (at / 2))) (node tree times (2 * (at / 2) + 1)) → get_or tree (at / 2) None ≡ v → IsTree tree times
stopped_above tree times at v b two within is here =
    let same : length tree ≡ length times = b.same in
    settled tree times at (at / 2) v b (halves at) (omega (arith, two)) (omega (arith, two, within, same)) is here

pub whole : (tree times : List Time) (at : ℕ) → at ≡ 1 → IsTreeBut tree times at → IsTree tree times
whole tree times at e b = record { same = b.same; rule = λ i some less. b.rule i some less (λ f. absurd (omega (arith, e, f, some))) (λ f. absurd (omega (arith, e, f, some))) }

pub no_times : (n i : ℕ) → get_or (replicate n never) i None ≡ None
no_times zero i = refl
no_times (suc n) zero = refl
no_times (suc n) (suc i) = no_times n i

empty_node : (n i : ℕ) → node (replicate n None) (replicate n None) i ≡ None
empty_node n i = by (cases i (length (replicate n never))) where
  by : (i < length (replicate n never)) ⊎ (length (replicate n never) ≤ i) → node (replicate n None) (replicate n None) i ≡ None
  by (inl less) = inner (replicate n None) (replicate n None) i less ∙ no_times n i
  by (inr more) = outer (replicate n None) (replicate n None) i more ∙ no_times n (i - length (replicate n never))

pub empty : (n : ℕ) → IsTree (replicate n None) (replicate n None)
empty n = record {
  same = refl;
  rule = λ i some less.
      no_times n i ∙ sym (ap (λ x. sooner x (node (replicate n None) (replicate n None) (2 * i + 1))) (empty_node n (2 * i)) ∙ empty_node n (2 * i + 1));
}

-- ---- the first node has the earliest time

sooner_by : (b : Bool) (s u t : ℕ) → nat_le s u ≡ b → (s ≤ t) ⊎ (u ≤ t) → IsBy (if b then Some s else Some u) t
sooner_by true s u t test (inl h) = h
sooner_by true s u t test (inr h) = let l = leb-true s u test in omega (arith, l, h)
sooner_by false s u t test (inl h) = let l = leb-false s u test in omega (arith, l, h)
sooner_by false s u t test (inr h) = h

pub left_by : (a b : Time) (t : ℕ) → IsBy a t → IsBy (sooner a b) t
left_by None b t h = absurd h
left_by (Some s) None t h = h
left_by (Some s) (Some u) t h = sooner_by (nat_le s u) s u t refl (inl h)

pub right_by : (a b : Time) (t : ℕ) → IsBy b t → IsBy (sooner a b) t
right_by None b t h = h
right_by (Some s) None t h = absurd h
right_by (Some s) (Some u) t h = sooner_by (nat_le s u) s u t refl (inr h)

one_or : (i : ℕ) → 1 ≤ i → (i ≡ 1) ⊎ (2 ≤ i)
one_or i h = grind (arith, h)

-- the first node is by a time that each node above is by
abbrev Above : (tree times : List Time) (f t : ℕ) → Type 0
Above tree times f t = (p : ℕ) → p ≤ f → 1 ≤ p → p < length tree + length times → IsBy (node tree times p) t → IsBy (node tree times 1) t

is_sooner : (tree times : List Time) → IsTree tree times → (p : ℕ) → 1 ≤ p → p < length tree → node tree times p ≡ sooner (node tree times (2 * p)) (node tree times (2 * p + 1))
is_sooner tree times h p least inside = inner tree times p inside ∙ h.rule p least inside

up_by : (tree times : List Time) → IsTree tree times → (f i t : ℕ) → i ≤ suc f → 2 ≤ i → i < length tree + length times → Above tree times f t
    → (p : ℕ) → 2 * p ≤ i → i ≤ 2 * p + 1 → IsBy (sooner (node tree times (2 * p)) (node tree times (2 * p + 1))) t → IsBy (node tree times 1) t
up_by tree times h f i t less two within above p from to is =
    let same : length tree ≡ length times = h.same in
    let inside : p < length tree = omega (arith, from, within, same) in
    let least : 1 ≤ p = omega (arith, to, two) in
    above p (omega (arith, from, less, least)) least (omega (arith, inside)) (subst (λ (x : Time). IsBy x t) (sym (is_sooner tree times h p least inside)) is)

up : (tree times : List Time) → IsTree tree times → (f i t : ℕ) → i ≤ suc f → 2 ≤ i → i < length tree + length times → IsBy (node tree times i) t → Above tree times f t
    → (p : ℕ) → (i ≡ 2 * p) ⊎ (i ≡ 2 * p + 1) → IsBy (node tree times 1) t
up tree times h f i t less two within is above p (inl e) =
    up_by tree times h f i t less two within above p (omega (arith, e)) (omega (arith, e))
    (left_by (node tree times (2 * p)) (node tree times (2 * p + 1)) t (subst (λ (n : ℕ). IsBy (node tree times n) t) e is))
up tree times h f i t less two within is above p (inr e) =
    up_by tree times h f i t less two within above p (omega (arith, e)) (omega (arith, e))
    (right_by (node tree times (2 * p)) (node tree times (2 * p + 1)) t (subst (λ (n : ℕ). IsBy (node tree times n) t) e is))

climb_by : (tree times : List Time) → IsTree tree times → (f i t : ℕ) → i ≤ suc f → i < length tree + length times → IsBy (node tree times i) t → Above tree times f t → (i ≡ 1) ⊎ (2 ≤ i) → IsBy (node tree times 1) t
climb_by tree times h f i t less within is above (inl e) = subst (λ (n : ℕ). IsBy (node tree times n) t) e is
climb_by tree times h f i t less within is above (inr two) = up tree times h f i t less two within is above (i / 2) (halves i)

climb : (tree times : List Time) → IsTree tree times → (f i : ℕ) → i ≤ f → 1 ≤ i → i < length tree + length times → (t : ℕ) → IsBy (node tree times i) t → IsBy (node tree times 1) t
climb tree times h zero i less some within t is = absurd (omega (arith, less, some))
climb tree times h (suc f) i less some within t is =
    climb_by tree times h f i t less within is (λ p small least inside by. climb tree times h f p small least inside t by) (one_or i some)

by_itself : (o : Time) (t : ℕ) → o ≡ Some t → IsBy o t
by_itself None t e = absurd (cc)
by_itself (Some s) t e = let same : s ≡ t = cc in omega (arith, same)

pub root : (tree times : List Time) (first : Time) → IsTree tree times → first ≡ node tree times 1 → HasEarliest times first
root tree times first h is = record {
  least = λ k t there.
      let within : k < length times = slice_get_within times k (Some t) there in
      let same : length tree ≡ length times = h.same in
      let at : length tree + k - length tree ≡ k = omega arith in
      let leaf : node tree times (length tree + k) ≡ Some t =
      outer tree times (length tree + k) (omega arith) ∙ ap (λ (n : ℕ). get_or times n None) at ∙ get_or_from_slice_get times k (Some t) None there in
      subst (λ (x : Time). IsBy x t) (sym is)
      (climb tree times h (length tree + k) (length tree + k) (omega arith) (omega (arith, within, same)) (omega (arith, within)) t (by_itself (node tree times (length tree + k)) t leaf));
}

pub nothing : (times : List Time) (first : Time) → length times ≡ 0 → HasEarliest times first
nothing times first none = record { least = λ k t there. let within : k < length times = slice_get_within times k (Some t) there in absurd (omega (arith, within, none)) }

-- ---- the way down

chosen : (b : Bool) (s u t : ℕ) → (if b then Some s else Some u) ≡ Some t → Some s ≢ Some t → Some u ≡ Some t
chosen true s u t is not = absurd (not is)
chosen false s u t is not = is

pub other_child : (a b : Time) (t : ℕ) → sooner a b ≡ Some t → a ≢ Some t → b ≡ Some t
other_child None b t is not = is
other_child (Some s) None t is not = absurd (not is)
other_child (Some s) (Some u) t is not = chosen (nat_le s u) s u t is not

-- a node's time is one of the two below it
pub one_below : (tree times : List Time) (at t : ℕ) → IsTree tree times → 1 ≤ at → at < length tree → node tree times at ≡ Some t
    → node tree times (2 * at) ≢ Some t → node tree times (2 * at + 1) ≡ Some t
one_below tree times at t h some within is not =
    other_child (node tree times (2 * at)) (node tree times (2 * at + 1)) t (sym (inner tree times at within ∙ h.rule at some within) ∙ is) not

pub leaf_there : (tree times : List Time) (at t : ℕ) → length tree ≡ length times → length tree ≤ at → at < length tree + length times → node tree times at ≡ Some t → slice_get times (at - length tree) ≡ Some (Some t)
leaf_there tree times at t same more within is =
    slice_get-get_or times (at - length tree) None (omega (arith, same, more, within)) ∙ ap Some (sym (outer tree times at more) ∙ is)

-- ---- the numbers whose time has come

pub none_at_all : (times : List Time) (now : ℕ) → HasEarliest times None → HasNoneBy times now
none_at_all times now h = record { after = λ k t there. absurd (h.least k t there) }

pub none_soon : (times : List Time) (now t : ℕ) → HasEarliest times (Some t) → now < t → HasNoneBy times now
none_soon times now t h later = record { after = λ k u there. let least : t ≤ u = h.least k u there in omega (arith, least, later) }
