-- Where each item is captured before it is waited for no longer, none is missing.
use Rattle.std.proofs.Common.{◌≡◌, ◌∙◌, ap, sym, refl, subst, arith, ℕ, ◌+◌, ◌-◌, ◌<◌, ◌≤◌, ◌⊎◌, inl, inr, Bool, true, false, cond, List, [], ◌∷◌, Option, Some, None}
use Rattle.std.specs.Prelude.{nat_lt, min}
use Rattle.std.proofs.lemmas.Bool.{ltb-false, ltb-true}
use Rattle.xns_calls.specs.declared.early.Early.{Early}
use Rattle.xns_calls.specs.declared.heading.Heading.{Heading}
use Rattle.xns_calls.specs.Events.{AreWithinReach, Event, IsAmong, IsLate, acknowledged, after_event, after_events, after_whole_event, after_whole_events, brought_if, captured, meanwhile, read, read_below, read_below_if, read_below_over, read_first_over, with_captured}
use Rattle.xns_calls.specs.Exchange.{is_repeat, up_to}
use Rattle.xns_calls.specs.Numbers.{most_early}
use Rattle.xns_calls.specs.Queue.{below, last_kept_number}
use Rattle.xns_calls.specs.Reading.{Told, brought, brought_over, first_read, first_read_over, item_read, passed, read_next}
use Rattle.xns_calls.proofs.Steps.{early_of, passed_same, read_early, with_early}
use Rattle.xns_calls.proofs.Known.{event_known, event_ordered, known_step, new_ordered, with_item}
use Rattle.xns_calls.proofs.Ordered.{AreFrom, IsKnown, IsOrdered, Kept, item_next, next_of, none_below}

-- ---- read where nothing is missing

-- the number stands where it is kept, or further on
pub kept_next : (n : ℕ) (e : Early) (rest : List Early) → AreFrom n (e ∷ rest) → Kept n (e ∷ rest) → e.number ≡ n
kept_next n e rest from (inl is) = is
kept_next n e rest from (inr k) = absurd (none_below (e.number + 1) n rest from.1 (omega (arith, from.0)) k)

-- all that is not read below the number is kept
abbrev pub AreKept : ℕ → ℕ → List Early → Type 0
AreKept next n es = (m : ℕ) → next ≤ m → m < n → Kept m es

at_end : (next n : ℕ) → AreKept next n [] → n ≤ next
at_end next n all = by_order (nat_lt next n) refl
  where
    by_order : (p : Bool) → nat_lt next n ≡ p → n ≤ next
    by_order true lt = absurd (all next (omega arith) (ltb-true next n lt))
    by_order false le = ltb-false next n le

at_next : (next n : ℕ) (e : Early) (rest : List Early) → AreFrom next (e ∷ rest) → AreKept next n (e ∷ rest) → n ≤ e.number → n ≤ next
at_next next n e rest from all le = by_order (nat_lt next n) refl
  where
    by_order : (p : Bool) → nat_lt next n ≡ p → n ≤ next
    by_order true lt = let is : e.number ≡ next = kept_next next e rest from (all next (omega arith) (ltb-true next n lt)) in let less : next < n = ltb-true next n lt in absurd (omega (arith, is, less, le))
    by_order false e' = ltb-false next n e'

pub rest_kept : (n : ℕ) (e : Early) (rest : List Early) → AreKept e.number n (e ∷ rest) → AreKept (e.number + 1) n rest
rest_kept n e rest all m least lt = not_first (all m (omega (arith, least)) lt)
  where
    not_first : (e.number ≡ m) ⊎ Kept m rest → Kept m rest
    not_first (inl is) = absurd (omega (arith, is, least))
    not_first (inr k) = k

whole_over : (h : Heading) (n : ℕ) (es : List Early) (t : Told) → early_of t ≡ es → AreFrom (next_of t) es → AreKept (next_of t) n es → brought_over h n es t ≡ read_below_over h n es t
unfolding item_read
whole_over h n [] t same from all = passed_same h n t (at_end (next_of t) n all)
whole_over h n (e ∷ rest) t same from all = by_order (nat_lt e.number n) refl (λ f a. whole_over h n rest u (read_early h e left) f a)
  where
    left : Told
    left = with_early rest t

    u : Told
    u = item_read h e left

    v : Told
    v = read_next h (e.number + 1) e.item.item left

    by_order : (p : Bool) → nat_lt e.number n ≡ p → (AreFrom (next_of u) rest → AreKept (next_of u) n rest → brought_over h n rest u ≡ read_below_over h n rest u)
        → cond p (brought_over h n rest u) (passed h n t) ≡ cond p (read_below_over h n rest v) t
    by_order true below more =
        let lt : e.number < n = ltb-true e.number n below in
        let is : e.number ≡ next_of t = kept_next (next_of t) e rest from (all (next_of t) (omega arith) (omega (arith, lt, from.0))) in
        let nothing : u ≡ v = ap (read_next h (e.number + 1) e.item.item) (passed_same h e.number left (omega (arith, is))) in
        let next : next_of u ≡ e.number + 1 = item_next h e left in
        more (subst (λ k. AreFrom k rest) (sym next) from.1)
        (subst (λ k. AreKept k n rest) (sym next) (rest_kept n e rest (subst (λ k. AreKept k n (e ∷ rest)) (sym is) all)))
        ∙ ap (read_below_over h n rest) nothing
    by_order false above more = passed_same h n t (at_next (next_of t) n e rest from all (ltb-false e.number n above))

pub brought_whole : (h : Heading) (n : ℕ) (t : Told) → IsOrdered t → AreKept (next_of t) n (early_of t) → brought h n t ≡ read_below h n t
unfolding brought
brought_whole h n t ordered all = whole_over h n t.track.early t refl ordered all

first_whole_over : (h : Heading) (es : List Early) (t : Told) → AreFrom (next_of t) es → first_read_over h es t ≡ read_first_over h es t
unfolding item_read
first_whole_over h [] t from = refl
first_whole_over h (e ∷ rest) t from = by_order (nat_lt (next_of t) e.number) refl
  where
    by_order : (p : Bool) → nat_lt (next_of t) e.number ≡ p
        → cond p t (item_read h e (with_early rest t)) ≡ cond p t (read_next h (e.number + 1) e.item.item (with_early rest t))
    by_order true later = refl
    by_order false due = ap (read_next h (e.number + 1) e.item.item) (passed_same h e.number (with_early rest t) (ltb-false (next_of t) e.number due))

pub first_whole : (h : Heading) (t : Told) → IsOrdered t → first_read h t ≡ read_first_over h t.track.early t
unfolding first_read
first_whole h t ordered = first_whole_over h t.track.early t ordered

-- ---- where nothing is missing

-- what is late in this way, and not read, is kept
pub late_kept : (first : ℕ) (before : List ℕ) (t : Told) → ((n : ℕ) → n < first → IsKnown n t) → ((n : ℕ) → IsAmong n before → IsKnown n t) → (L : ℕ → Type 0) → ((n : ℕ) → first ≤ n → L n → IsAmong n before)
    → (m : ℕ) → next_of t ≤ m → L m → Kept m (early_of t)
late_kept first before t low known L late m le l = by_order (nat_lt m first) refl
  where
    not_read : IsKnown m t → Kept m (early_of t)
    not_read (inl lt) = absurd (omega (arith, lt, le))
    not_read (inr k) = k

    by_order : (p : Bool) → nat_lt m first ≡ p → Kept m (early_of t)
    by_order true lt = not_read (low m (ltb-true m first lt))
    by_order false up = not_read (known m (late m (ltb-false m first up) l))

acknowledged_whole : (h : Heading) (o : Option ℕ) (n : ℕ) (t : Told) → IsOrdered t → AreKept (next_of t) n (early_of t) → brought_if h (up_to o (Some n)) t ≡ read_below_if h (up_to o (Some n)) t
acknowledged_whole h None n t ordered all = refl
acknowledged_whole h (Some last) n t ordered all = brought_whole h (min n (last + 1)) t ordered (λ m le lt. all m le (omega (arith, lt)))

pub event_whole : (first : ℕ) (before : List ℕ) (e : Event) (t : Told) → IsOrdered t → ((n : ℕ) → n < first → IsKnown n t) → ((n : ℕ) → IsAmong n before → IsKnown n t) → ((n : ℕ) → first ≤ n → IsLate e n → IsAmong n before)
    → after_event e t ≡ after_whole_event e t
event_whole first before (captured h k item) t ordered low known late =
    let all : AreKept (next_of t) (k - most_early) (early_of t) = λ m le lt. late_kept first before t low known (λ n. n + most_early < k) late m le (omega (arith, lt)) in
    ap (λ (u : Told). cond (is_repeat k t.track) t (with_item k item u)) (brought_whole h (k - most_early) t ordered all)
event_whole first before (acknowledged h n) t ordered low known late =
    acknowledged_whole h (last_kept_number t.track.early) n t ordered (λ m le lt. late_kept first before t low known (λ i. i < n) late m le lt)
event_whole first before (read h) t ordered low known late = first_whole h t ordered
event_whole first before (meanwhile calls text is_refused) t ordered low known late = refl

none_missing : (first : ℕ) (before : List ℕ) (events : List Event) (t : Told) → IsOrdered t → ((n : ℕ) → n < first → IsKnown n t) → ((n : ℕ) → IsAmong n before → IsKnown n t) → AreWithinReach first before events
    → after_events events t ≡ after_whole_events events t
none_missing first before [] t ordered low known within = refl
none_missing first before (e ∷ more) t ordered low known within =
    none_missing first (with_captured e before) more (after_event e t) (event_ordered e t ordered) (λ n lt. event_known n e t ordered (low n lt)) (known_step before e t ordered known) within.1
    ∙ ap (after_whole_events more) (event_whole first before e t ordered low known within.0)

pub nothing_missing : (events : List Event) (t : Told) → t.track.early ≡ [] → AreWithinReach t.track.next [] events → after_events events t ≡ after_whole_events events t
nothing_missing events t none within = none_missing t.track.next [] events t (new_ordered t none) (λ n lt. inl lt) (λ n nothing. absurd nothing) within
