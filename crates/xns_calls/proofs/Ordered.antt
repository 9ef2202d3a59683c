-- What a flow keeps stays in order, from its next number on, where it is brought on and where its first item is read.
use Rattle.std.proofs.Common.{◌≡◌, ◌∙◌, ap, sym, refl, subst, arith, ℕ, ◌+◌, ◌<◌, ◌≤◌, ◌==◌, ◌⊎◌, inl, inr, Bool, true, false, cond, List, [], ◌∷◌}
use Rattle.std.specs.Prelude.{nat_lt, max}
use Rattle.std.proofs.lemmas.Bool.{cond_both, le-ltb, ltb-false, ltb-true}
use Rattle.xns_spp.specs.declared.item.Item.{Item}
use Rattle.xns_calls.specs.declared.early.Early.{Early}
use Rattle.xns_calls.specs.declared.heading.Heading.{Heading}
use Rattle.xns_calls.specs.Queue.{kept}
use Rattle.xns_calls.specs.Reading.{Told, brought, brought_over, first_read, first_read_over, item_read, passed, past, read_next, said_item, after_heard}
use Rattle.xns_calls.proofs.Steps.{early_of, passed_early, passed_same, read_early, with_early}

-- ---- what is kept, in order

-- numbers from n on, each above the one before it
abbrev pub AreFrom : ℕ → List Early → Type 0
AreFrom n [] = Unit {0}
AreFrom n (e ∷ rest) = (n ≤ e.number) × AreFrom (e.number + 1) rest

abbrev pub Kept : ℕ → List Early → Type 0
Kept m [] = ⊥
Kept m (e ∷ rest) = (e.number ≡ m) ⊎ Kept m rest

abbrev pub next_of : Told → ℕ
next_of t = t.track.next

-- what is kept is in order, and nothing of it was read
abbrev pub IsOrdered : Told → Type 0
IsOrdered t = AreFrom (next_of t) (early_of t)

-- read, passed over or kept
abbrev pub IsKnown : ℕ → Told → Type 0
IsKnown m t = (m < next_of t) ⊎ Kept m (early_of t)

-- what is kept from n on has nothing below n
pub none_below : (n m : ℕ) (es : List Early) → AreFrom n es → m < n → Kept m es → ⊥
none_below n m [] h lt k = k
none_below n m (e ∷ rest) h lt (inl same) = absurd (omega (arith, h.0, lt, same))
none_below n m (e ∷ rest) h lt (inr k) = none_below (e.number + 1) m rest h.1 (omega (arith, h.0, lt)) k

-- ---- what passing over and reading leave

pub passed_next : (h : Heading) (n : ℕ) (t : Told) → next_of (passed h n t) ≡ max (next_of t) n
unfolding passed
passed_next h n t = cond_both (nat_lt t.track.next n) (past h n t) t (λ (u : Told). u.track.next ≡ max t.track.next n)
    (λ e. omega (arith, ltb-true t.track.next n e)) (λ e. omega (arith, ltb-false t.track.next n e))

cond_next : (p : Bool) (t u : Told) → next_of t ≡ next_of u → next_of (cond p t u) ≡ next_of u
cond_next true t u e = e
cond_next false t u e = refl

pub read_next_of : (h : Heading) (n : ℕ) (item : Item) (t : Told) → next_of (read_next h n item t) ≡ n
unfolding said_item after_heard
read_next_of h n item t =
    let onwards : Told = record t { track = record t.track { next = n } } in cond_next (item.stream == 0) (said_item h item onwards) onwards refl

pub item_next : (h : Heading) (e : Early) (t : Told) → next_of (item_read h e t) ≡ e.number + 1
unfolding item_read
item_next h e t = read_next_of h (e.number + 1) e.item.item (passed h e.number t)

-- ---- an invariant of bringing: it holds where an item that is due is read, and where the rest is passed over

pub record Bears (P : Told → Type 0) (h : Heading) (n : ℕ) : Type 0 where
  pub reads : (e : Early) (rest : List Early) (t : Told) → early_of t ≡ e ∷ rest → next_of t ≤ e.number → e.number < n → P t → P (item_read h e (with_early rest t))
  pub passes : (t : Told) → P t → P (passed h n t)

over_bears : (P : Told → Type 0) (h : Heading) (n : ℕ) → Bears P h n → (es : List Early) (t : Told) → early_of t ≡ es → AreFrom (next_of t) es → P t → P (brought_over h n es t)
over_bears P h n bears [] t same from p = bears.passes t p
over_bears P h n bears (e ∷ rest) t same from p =
    let u = item_read h e (with_early rest t) in
    cond_both (nat_lt e.number n) (brought_over h n rest u) (passed h n t) P
    (λ due. over_bears P h n bears rest u (read_early h e (with_early rest t)) (subst (λ k. AreFrom k rest) (sym (item_next h e (with_early rest t))) from.1)
    (bears.reads e rest t same from.0 (ltb-true e.number n due) p))
    (λ later. bears.passes t p)

pub brought_bears : (P : Told → Type 0) (h : Heading) (n : ℕ) (t : Told) → Bears P h n → AreFrom (next_of t) (early_of t) → P t → P (brought h n t)
unfolding brought
brought_bears P h n t bears from p = over_bears P h n bears t.track.early t refl from p

-- what is known stays known
pub known_read : (m : ℕ) (h : Heading) (e : Early) (rest : List Early) (t : Told) → early_of t ≡ e ∷ rest → next_of t ≤ e.number → IsKnown m t → IsKnown m (item_read h e (with_early rest t))
known_read m h e rest t same le (inl lt) = inl (subst (λ k. m < k) (sym (item_next h e (with_early rest t))) (omega (arith, lt, le)))
known_read m h e rest t same le (inr kept) = known_kept (subst (Kept m) same kept)
  where
    known_kept : Kept m (e ∷ rest) → (m < next_of (item_read h e (with_early rest t))) ⊎ Kept m (early_of (item_read h e (with_early rest t)))
    known_kept (inl is) = inl (subst (λ k. m < k) (sym (item_next h e (with_early rest t))) (omega (arith, is)))
    known_kept (inr k) = inr (subst (Kept m) (sym (read_early h e (with_early rest t))) k)

known_passed : (m : ℕ) (h : Heading) (n : ℕ) (t : Told) → IsKnown m t → IsKnown m (passed h n t)
known_passed m h n t (inl lt) = inl (subst (λ k. m < k) (sym (passed_next h n t)) (omega (arith, lt)))
known_passed m h n t (inr k) = inr (subst (Kept m) (sym (passed_early h n t)) k)

pub known_bears : (m : ℕ) (h : Heading) (n : ℕ) → Bears (IsKnown m) h n
known_bears m h n = record { reads = λ e rest t same le due k. known_read m h e rest t same le k; passes = λ t k. known_passed m h n t k }

-- what is kept behind is in order
over_ordered : (h : Heading) (n : ℕ) (es : List Early) (t : Told) → early_of t ≡ es → AreFrom (next_of t) es → IsOrdered (brought_over h n es t)
over_ordered h n [] t same from = subst (AreFrom (next_of (passed h n t))) (sym (passed_early h n t ∙ same)) tt
over_ordered h n (e ∷ rest) t same from =
    let u = item_read h e (with_early rest t) in
    cond_both (nat_lt e.number n) (brought_over h n rest u) (passed h n t) IsOrdered
    (λ due. over_ordered h n rest u (read_early h e (with_early rest t)) (subst (λ k. AreFrom k rest) (sym (item_next h e (with_early rest t))) from.1))
    (λ later.
    let le : n ≤ e.number = ltb-false e.number n later in
    subst (λ k. AreFrom k (early_of (passed h n t))) (sym (passed_next h n t))
    (subst (AreFrom (max (next_of t) n)) (sym (passed_early h n t ∙ same)) (omega (arith, le, from.0), from.1)))

pub brought_ordered : (h : Heading) (n : ℕ) (t : Told) → IsOrdered t → IsOrdered (brought h n t)
unfolding brought
brought_ordered h n t from = over_ordered h n t.track.early t refl from

-- what is read first leaves the rest in order
first_over_ordered : (h : Heading) (es : List Early) (t : Told) → early_of t ≡ es → AreFrom (next_of t) es → IsOrdered (first_read_over h es t)
first_over_ordered h [] t same from = subst (AreFrom (next_of t)) (sym same) tt
first_over_ordered h (e ∷ rest) t same from =
    let u = item_read h e (with_early rest t) in
    cond_both (nat_lt (next_of t) e.number) t u IsOrdered
    (λ later. subst (AreFrom (next_of t)) (sym same) from)
    (λ due. subst (λ k. AreFrom k (early_of u)) (sym (item_next h e (with_early rest t))) (subst (AreFrom (e.number + 1)) (sym (read_early h e (with_early rest t))) from.1))

pub first_ordered : (h : Heading) (t : Told) → IsOrdered t → IsOrdered (first_read h t)
unfolding first_read
first_ordered h t from = first_over_ordered h t.track.early t refl from

-- an invariant of reading, for the first item
first_over_bears : (P : Told → Type 0) (h : Heading) → ((e : Early) (rest : List Early) (u : Told) → early_of u ≡ e ∷ rest → next_of u ≤ e.number → P u → P (item_read h e (with_early rest u)))
    → (es : List Early) (t : Told) → early_of t ≡ es → AreFrom (next_of t) es → P t → P (first_read_over h es t)
first_over_bears P h reads [] t same from p = p
first_over_bears P h reads (e ∷ rest) t same from p =
    cond_both (nat_lt (next_of t) e.number) t (item_read h e (with_early rest t)) P (λ later. p) (λ due. reads e rest t same from.0 p)

pub first_bears : (P : Told → Type 0) (h : Heading) → ((e : Early) (rest : List Early) (u : Told) → early_of u ≡ e ∷ rest → next_of u ≤ e.number → P u → P (item_read h e (with_early rest u)))
    → (t : Told) → IsOrdered t → P t → P (first_read h t)
unfolding first_read
first_bears P h reads t from p = first_over_bears P h reads t.track.early t refl from p

-- a flow that is there already is left as it is
pub brought_same : (h : Heading) (n : ℕ) (t : Told) → IsOrdered t → n ≤ next_of t → brought h n t ≡ t
unfolding brought
brought_same h n t ordered le = same_over t.track.early ordered
  where
    same_over : (es : List Early) → AreFrom (next_of t) es → brought_over h n es t ≡ t
    same_over [] from = passed_same h n t le
    same_over (e ∷ rest) from =
        ap (λ p. cond p (brought_over h n rest (item_read h e (with_early rest t))) (passed h n t)) (le-ltb e.number n (omega (arith, le, from.0)))
        ∙ passed_same h n t le
