-- The last item that a flow keeps, and acknowledgements of no more than that.
use Rattle.std.proofs.Common.{◌≡◌, ◌∙◌, ap, sym, refl, subst, arith, ℕ, suc, ◌+◌, ◌-◌, ◌<◌, ◌≤◌, cond, List, [], ◌∷◌, ◌++◌, length, Option, Some, None}
use Rattle.std.specs.Prelude.{min, nat_lt, option_map, slice_get}
use Rattle.std.proofs.lemmas.Bool.{cond_both, lt-ltb}
use Rattle.xns_calls.specs.Events.{Event, acknowledged, acknowledged_event, after_events, brought_if, captured, meanwhile, read}
use Rattle.xns_calls.specs.Exchange.{behind_last, up_to}
use Rattle.xns_calls.specs.Queue.{last_kept_number}
use Rattle.xns_calls.specs.Reading.{Told, brought, brought_over, item_read, passed}
use Rattle.xns_calls.specs.declared.early.Early.{Early}
use Rattle.xns_calls.specs.declared.heading.Heading.{Heading}
use Rattle.xns_calls.proofs.Ordered.{AreFrom, IsOrdered, next_of}
use Rattle.xns_calls.proofs.Steps.{early_of, passed_early, read_early, with_early}

abbrev pub AreBelow : ℕ → List Early → Type 0
AreBelow n [] = Unit {0}
AreBelow n (e ∷ rest) = (e.number < n) × AreBelow n rest

pub least_same : (a : ℕ) → min a a ≡ a
least_same a = omega arith

-- the end leaves nothing
over_empty : (h : Heading) (n : ℕ) (es : List Early) (t : Told) → early_of t ≡ es → AreBelow n es → early_of (brought_over h n es t) ≡ []
over_empty h n [] t same below = passed_early h n t ∙ same
over_empty h n (e ∷ rest) t same below =
    let u = item_read h e (with_early rest t) in
    ap (λ p. early_of (cond p (brought_over h n rest u) (passed h n t))) (lt-ltb e.number n below.0) ∙ over_empty h n rest u (read_early h e (with_early rest t)) below.1

last_more : (e g : Early) (rest : List Early) → last_kept_number (e ∷ g ∷ rest) ≡ last_kept_number (g ∷ rest)
last_more e g rest =
    let one : length (e ∷ g ∷ rest) - 1 ≡ suc (length (g ∷ rest) - 1) = omega arith in ap (λ i. option_map (λ (x : Early). x.number) (slice_get (e ∷ g ∷ rest) i)) one

-- each number is at most the last one
last_below : (n : ℕ) (es : List Early) (last : ℕ) → AreFrom n es → last_kept_number es ≡ Some last → AreBelow (last + 1) es
last_below n [] last from is = tt
last_below n (e ∷ []) last from is = let same : e.number ≡ last = (cc) in (omega (arith, same), tt)
last_below n (e ∷ g ∷ rest) last from is =
    let more = last_below (e.number + 1) (g ∷ rest) last from.1 (sym (last_more e g rest) ∙ is) in
    (omega (arith, more.0, from.1.0), more)

none_kept : (es : List Early) → last_kept_number es ≡ None → es ≡ []
none_kept [] is = refl
none_kept (e ∷ []) is = (cc)
none_kept (e ∷ g ∷ rest) is = let none : g ∷ rest ≡ [] = none_kept (g ∷ rest) (sym (last_more e g rest) ∙ is) in (cc)

pub end_empty : (h : Heading) (t : Told) → IsOrdered t → early_of (after_events (acknowledged_event h (behind_last (Some t.track))) t) ≡ []
unfolding brought
end_empty h t ordered = by_last (last_kept_number t.track.early) refl
  where
    by_last : (o : Option ℕ) → last_kept_number t.track.early ≡ o → early_of (after_events (acknowledged_event h (option_map (λ number. number + 1) o)) t) ≡ []
    by_last None is = none_kept t.track.early is
    by_last (Some last) is =
        ap (λ o. early_of (brought_if h (up_to o (Some (last + 1))) t)) is
        ∙ ap (λ m. early_of (brought h m t)) (least_same (last + 1))
        ∙ over_empty h (last + 1) t.track.early t refl (last_below (next_of t) t.track.early last ordered is)

-- ---- a number that is at most the one behind the last item

pub upto_twice : (l a : Option ℕ) → up_to l (up_to l a) ≡ up_to l a
upto_twice None a = refl
upto_twice (Some last) None = refl
upto_twice (Some last) (Some n) = let same : min (min n (last + 1)) (last + 1) ≡ min n (last + 1) = omega arith in ap Some same

-- the last number is below what all are below
last_under : (bound : ℕ) (es : List Early) (last : ℕ) → AreBelow bound es → last_kept_number es ≡ Some last → last < bound
last_under bound [] last below is = (cc)
last_under bound (e ∷ []) last below is = let same : e.number ≡ last = (cc) in subst (λ k. k < bound) same below.0
last_under bound (e ∷ g ∷ rest) last below is = last_under bound (g ∷ rest) last below.1 (sym (last_more e g rest) ∙ is)

pub upto_below : (bound n : ℕ) (es : List Early) → up_to (last_kept_number es) (Some n) ≡ Some n → AreBelow bound es → n ≤ bound
upto_below bound n es upto below = by_last (last_kept_number es) refl upto
  where
    by_last : (o : Option ℕ) → last_kept_number es ≡ o → up_to o (Some n) ≡ Some n → n ≤ bound
    by_last None at is = (cc)
    by_last (Some last) at is =
        let same : min n (last + 1) ≡ n = (cc) in
        let under : last < bound = last_under bound es last below at in omega (arith, same, under)

-- the number behind the first item is at most the one behind the last
pub first_upto : (t : Told) (e : Early) (rest : List Early) → t.track.early ≡ e ∷ rest → IsOrdered t → up_to (last_kept_number t.track.early) (Some (e.number + 1)) ≡ Some (e.number + 1)
first_upto t e rest at ordered = by_last (last_kept_number t.track.early) refl
  where
    from : AreFrom t.track.next (e ∷ rest)
    from = subst (AreFrom t.track.next) at ordered

    some_kept : t.track.early ≡ [] → ⊥
    some_kept none = let wrong : e ∷ rest ≡ [] = sym at ∙ none in (cc)

    by_last : (o : Option ℕ) → last_kept_number t.track.early ≡ o → up_to o (Some (e.number + 1)) ≡ Some (e.number + 1)
    by_last None is = absurd (some_kept (none_kept t.track.early is))
    by_last (Some last) is =
        let below : AreBelow (last + 1) (e ∷ rest) = last_below t.track.next (e ∷ rest) last from (ap last_kept_number (sym at) ∙ is) in
        let same : min (e.number + 1) (last + 1) ≡ e.number + 1 = omega (arith, below.0) in ap Some same

-- ---- what is kept below a number stays below it

over_below : (bound : ℕ) (h : Heading) (n : ℕ) (es : List Early) (t : Told) → early_of t ≡ es → AreBelow bound es → AreBelow bound (early_of (brought_over h n es t))
over_below bound h n [] t same below = subst (AreBelow bound) (sym (passed_early h n t ∙ same)) tt
over_below bound h n (e ∷ rest) t same below =
    let u = item_read h e (with_early rest t) in
    cond_both (nat_lt e.number n) (brought_over h n rest u) (passed h n t) (λ (x : Told). AreBelow bound (early_of x))
    (λ due. over_below bound h n rest u (read_early h e (with_early rest t)) below.1)
    (λ later. subst (AreBelow bound) (sym (passed_early h n t ∙ same)) below)

pub brought_if_below : (bound : ℕ) (h : Heading) (o : Option ℕ) (t : Told) → AreBelow bound (early_of t) → AreBelow bound (early_of (brought_if h o t))
unfolding brought
brought_if_below bound h None t below = below
brought_if_below bound h (Some n) t below = over_below bound h n t.track.early t refl below

abbrev pub bound_of : Option ℕ → ℕ
bound_of None = 0
bound_of (Some n) = n

pub all_below : (t : Told) → IsOrdered t → AreBelow (bound_of (behind_last (Some t.track))) (early_of t)
all_below t ordered = by_last (last_kept_number t.track.early) refl
  where
    by_last : (o : Option ℕ) → last_kept_number t.track.early ≡ o → AreBelow (bound_of (option_map (λ number. number + 1) o)) (early_of t)
    by_last None is = subst (AreBelow 0) (sym (none_kept t.track.early is)) tt
    by_last (Some last) is = last_below t.track.next t.track.early last ordered is

-- ---- events that acknowledge no more than a number

abbrev pub AreAcks : ℕ → List Event → Type 0
AreAcks bound [] = Unit {0}
AreAcks bound (captured h n item ∷ more) = ⊥
AreAcks bound (acknowledged h n ∷ more) = (n ≤ bound) × AreAcks bound more
AreAcks bound (read h ∷ more) = ⊥
AreAcks bound (meanwhile calls text is_refused ∷ more) = AreAcks bound more

pub acks_append : (bound : ℕ) (xs ys : List Event) → AreAcks bound xs → AreAcks bound ys → AreAcks bound (xs ++ ys)
acks_append bound [] ys a b = b
acks_append bound (captured h n item ∷ xs) ys a b = absurd a
acks_append bound (acknowledged h n ∷ xs) ys a b = (a.0, acks_append bound xs ys a.1 b)
acks_append bound (read h ∷ xs) ys a b = absurd a
acks_append bound (meanwhile calls text is_refused ∷ xs) ys a b = acks_append bound xs ys a b
