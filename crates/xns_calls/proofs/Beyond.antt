-- No flow goes beyond what is captured of it, and nothing is missing where nothing behind the next item is captured.
use Rattle.std.proofs.Common.{◌≡◌, ap, sym, refl, subst, arith, ℕ, zero, suc, ◌+◌, ◌-◌, ◌≤◌, inl, inr, cond, List, [], ◌∷◌, length, Option, Some, None}
use Rattle.std.specs.Prelude.{nat_lt, min, IfSome, option_map, slice_get}
use Rattle.std.proofs.lemmas.Bool.{cond_both}
use Rattle.xns_calls.specs.declared.carried.Carried.{Carried}
use Rattle.xns_calls.specs.declared.early.Early.{Early}
use Rattle.xns_calls.specs.declared.heading.Heading.{Heading}
use Rattle.xns_calls.specs.Events.{Event, IsAmong, acknowledged, after_event, after_events, after_whole_event, brought_if, captured, captured_in, meanwhile, read, read_below_if, with_captured}
use Rattle.xns_calls.specs.Exchange.{is_repeat, up_to}
use Rattle.xns_calls.specs.Numbers.{most_early}
use Rattle.xns_calls.specs.Queue.{kept, last_kept_number}
use Rattle.xns_calls.specs.Reading.{Told, brought, first_read, item_read}
use Rattle.xns_calls.proofs.Steps.{early_of, passed_early, read_early, with_early}
use Rattle.xns_calls.proofs.Gaps.{brought_whole, first_whole}
use Rattle.xns_calls.proofs.Known.{early, event_ordered, events_ordered, kept_cases, new_ordered, with_item}
use Rattle.xns_calls.proofs.Ordered.{AreFrom, Bears, IsOrdered, Kept, brought_bears, first_bears, item_next, next_of, passed_next}

-- ---- no flow goes beyond what is captured

AreTo : ℕ → List Early → Type 0
AreTo most [] = Unit {0}
AreTo most (e ∷ rest) = (e.number ≤ most) × AreTo most rest

record IsTo (most : ℕ) (t : Told) : Type 0 where
  next : next_of t ≤ most + 1
  kept : AreTo most (early_of t)

first_to : (most : ℕ) (e : Early) (rest : List Early) → AreTo most (e ∷ rest) → (e.number ≤ most) × AreTo most rest
unfolding AreTo
first_to most e rest h = h

to_bears : (most : ℕ) (h : Heading) (n : ℕ) → n ≤ most + 1 → Bears (IsTo most) h n
to_bears most h n le = record {
  reads = λ e rest t same from due b.
      let both = first_to most e rest (subst (AreTo most) same b.kept) in record {
        next = subst (λ m. m ≤ most + 1) (sym (item_next h e (with_early rest t))) (omega (arith, both.0));
        kept = subst (AreTo most) (sym (read_early h e (with_early rest t))) both.1;
      };
  passes = λ t b. record {
    next = subst (λ m. m ≤ most + 1) (sym (passed_next h n t)) (omega (arith, le, b.next));
    kept = subst (AreTo most) (sym (passed_early h n t)) b.kept;
  };
}

first_to_bears : (most : ℕ) (h : Heading) (t : Told) → IsOrdered t → IsTo most t → IsTo most (first_read h t)
first_to_bears most h t ordered b = first_bears (IsTo most) h (λ e rest u same le p. reads e rest u same p) t ordered b
  where
    reads : (e : Early) (rest : List Early) (u : Told) → early_of u ≡ e ∷ rest → IsTo most u → IsTo most (item_read h e (with_early rest u))
    reads e rest u same b =
        let both = first_to most e rest (subst (AreTo most) same b.kept) in record {
          next = subst (λ m. m ≤ most + 1) (sym (item_next h e (with_early rest u))) (omega (arith, both.0));
          kept = subst (AreTo most) (sym (read_early h e (with_early rest u))) both.1;
        }

brought_to : (most : ℕ) (h : Heading) (n : ℕ) (t : Told) → AreFrom (next_of t) (early_of t) → n ≤ most + 1 → IsTo most t → IsTo most (brought h n t)
brought_to most h n t from le b = brought_bears (IsTo most) h n t (to_bears most h n le) from b

kept_to : (most k : ℕ) (item : Carried) (es : List Early) → k ≤ most → AreTo most es → AreTo most (kept k item es)
unfolding AreTo
kept_to most k item [] le h = (le, tt)
kept_to most k item (e ∷ rest) le h =
    subst (AreTo most) (sym (kept_cases (nat_lt e.number k) k item e rest refl))
    (cond_both (nat_lt e.number k) (e ∷ kept k item rest) (early k item ∷ e ∷ rest) (AreTo most) (λ less. (h.0, kept_to most k item rest le h.1)) (λ more. (le, h)))

got_to : (most : ℕ) (es : List Early) (i : ℕ) → AreTo most es → IfSome (option_map (λ (e : Early). e.number) (slice_get es i)) (λ n. n ≤ most)
unfolding AreTo
got_to most [] i h = tt
got_to most (e ∷ rest) zero h = h.0
got_to most (e ∷ rest) (suc i) h = got_to most rest i h.1

acknowledged_to : (most : ℕ) (h : Heading) (o : Option ℕ) (n : ℕ) (t : Told) → IsOrdered t → IfSome o (λ last. last ≤ most) → IsTo most t → IsTo most (brought_if h (up_to o (Some n)) t)
acknowledged_to most h None n t ordered le b = b
acknowledged_to most h (Some last) n t ordered le b = brought_to most h (min n (last + 1)) t ordered (omega (arith, le)) b

event_to : (most : ℕ) (e : Event) (t : Told) → IsOrdered t → ((n : ℕ) → IsAmong n (with_captured e []) → n ≤ most) → IsTo most t → IsTo most (after_event e t)
event_to most (captured h k item) t ordered up b =
    let le : k ≤ most = up k (inl refl) in
    let u = brought h (k - most_early) t in
    let at = brought_to most h (k - most_early) t ordered (omega (arith, le)) b in
    cond_both (is_repeat k t.track) t (with_item k item u) (IsTo most) (λ old. b)
    (λ new. record { next = at.next; kept = kept_to most k item (early_of u) le at.kept })
event_to most (acknowledged h n) t ordered up b = acknowledged_to most h (last_kept_number t.track.early) n t ordered (got_to most t.track.early (length t.track.early - 1) b.kept) b
event_to most (read h) t ordered up b = first_to_bears most h t ordered b
event_to most (meanwhile calls text is_refused) t ordered up b = record { next = b.next; kept = b.kept }

still_among : (n : ℕ) (events : List Event) (before : List ℕ) → IsAmong n before → IsAmong n (captured_in events before)
still_among n [] before among = among
still_among n (captured h k item ∷ more) before among = still_among n more (k ∷ before) (inr among)
still_among n (acknowledged h k ∷ more) before among = still_among n more before among
still_among n (read h ∷ more) before among = still_among n more before among
still_among n (meanwhile calls text is_refused ∷ more) before among = still_among n more before among

one_among : (n : ℕ) (e : Event) (before : List ℕ) → IsAmong n (with_captured e []) → IsAmong n (with_captured e before)
one_among n (captured h k item) before (inl is) = inl is
one_among n (captured h k item) before (inr none) = absurd none
one_among n (acknowledged h k) before none = absurd none
one_among n (read h) before none = absurd none
one_among n (meanwhile calls text is_refused) before none = absurd none

events_to : (most : ℕ) (before : List ℕ) (events : List Event) (t : Told) → IsOrdered t → ((n : ℕ) → IsAmong n (captured_in events before) → n ≤ most) → IsTo most t → IsTo most (after_events events t)
events_to most before [] t ordered up b = b
events_to most before (e ∷ more) t ordered up b =
    events_to most (with_captured e before) more (after_event e t) (event_ordered e t ordered) up
    (event_to most e t ordered (λ n among. up n (still_among n more (with_captured e before) (one_among n e before among))) b)

pub not_beyond : (events : List Event) (t : Told) (most : ℕ) → t.track.early ≡ [] → t.track.next ≤ most + 1 → ((n : ℕ) → IsAmong n (captured_in events []) → n ≤ most)
    → (after_events events t).track.next ≤ most + 1
unfolding AreTo
not_beyond events t most none le up =
    (events_to most [] events t (new_ordered t none) up (record { next = le; kept = subst (AreTo most) (sym none) tt })).next

-- ---- where nothing behind the next item is captured, nothing is missing

abbrev Holds : ℕ → Told → Type 0
Holds most t = AreTo most (early_of t)

holds_read : (most : ℕ) (h : Heading) (e : Early) (rest : List Early) (t : Told) → early_of t ≡ e ∷ rest → Holds most t → Holds most (item_read h e (with_early rest t))
holds_read most h e rest t same b = subst (AreTo most) (sym (read_early h e (with_early rest t))) (first_to most e rest (subst (AreTo most) same b)).1

holds_bears : (most : ℕ) (h : Heading) (n : ℕ) → Bears (Holds most) h n
holds_bears most h n = record {
  reads = λ e rest t same from due b. holds_read most h e rest t same b;
  passes = λ t b. subst (AreTo most) (sym (passed_early h n t)) b;
}

holds_if : (most : ℕ) (h : Heading) (o : Option ℕ) (t : Told) → IsOrdered t → Holds most t → Holds most (brought_if h o t)
holds_if most h None t ordered b = b
holds_if most h (Some n) t ordered b = brought_bears (Holds most) h n t (holds_bears most h n) ordered b

event_kept : (most : ℕ) (e : Event) (t : Told) → IsOrdered t → ((n : ℕ) → IsAmong n (with_captured e []) → n ≤ most) → Holds most t → Holds most (after_event e t)
event_kept most (captured h k item) t ordered up b =
    let u = brought h (k - most_early) t in
    cond_both (is_repeat k t.track) t (with_item k item u) (Holds most) (λ old. b)
    (λ new. kept_to most k item (early_of u) (up k (inl refl)) (brought_bears (Holds most) h (k - most_early) t (holds_bears most h (k - most_early)) ordered b))
event_kept most (acknowledged h n) t ordered up b = holds_if most h (up_to (last_kept_number t.track.early) (Some n)) t ordered b
event_kept most (read h) t ordered up b = first_bears (Holds most) h (λ e rest u same le p. holds_read most h e rest u same p) t ordered b
event_kept most (meanwhile calls text is_refused) t ordered up b = b

events_kept : (most : ℕ) (before : List ℕ) (events : List Event) (t : Told) → IsOrdered t → ((n : ℕ) → IsAmong n (captured_in events before) → n ≤ most) → AreTo most (early_of t) → AreTo most (early_of (after_events events t))
events_kept most before [] t ordered up b = b
events_kept most before (e ∷ more) t ordered up b =
    events_kept most (with_captured e before) more (after_event e t) (event_ordered e t ordered) up
    (event_kept most e t ordered (λ n among. up n (still_among n more (with_captured e before) (one_among n e before among))) b)

with_before : (n : ℕ) (e : Event) (before : List ℕ) → IsAmong n before → IsAmong n (with_captured e before)
with_before n (captured h k item) before among = inr among
with_before n (acknowledged h k) before among = among
with_before n (read h) before among = among
with_before n (meanwhile calls text is_refused) before among = among

got_kept : (es : List Early) (i n : ℕ) → option_map (λ (e : Early). e.number) (slice_get es i) ≡ Some n → Kept n es
got_kept [] i n e = (cc)
got_kept (x ∷ es) zero n e = inl (let same : x.number ≡ n = (cc) in same)
got_kept (x ∷ es) (suc i) n e = inr (got_kept es i n e)

-- an event of a flow of which nothing behind the next item is kept, nor captured then
event_first : (e : Event) (t : Told) → IsOrdered t → AreTo (next_of t) (early_of t) → ((n : ℕ) → IsAmong n (with_captured e []) → n ≤ next_of t) → after_event e t ≡ after_whole_event e t
unfolding AreTo
event_first (captured h k item) t ordered to up =
    let le : k ≤ next_of t = up k (inl refl) in
    ap (λ (u : Told). cond (is_repeat k t.track) t (with_item k item u)) (brought_whole h (k - most_early) t ordered (λ m least lt. absurd (omega (arith, le, least, lt))))
event_first (acknowledged h n) t ordered to up = by_last (last_kept_number t.track.early) refl
  where
    by_last : (o : Option ℕ) → last_kept_number t.track.early ≡ o → brought_if h (up_to o (Some n)) t ≡ read_below_if h (up_to o (Some n)) t
    by_last None is = refl
    by_last (Some last) is =
        let most : last ≤ next_of t = subst (λ o. IfSome o (λ i. i ≤ next_of t)) is (got_to (next_of t) t.track.early (length t.track.early - 1) to) in
        let there : Kept last (early_of t) = got_kept t.track.early (length t.track.early - 1) last is in
        brought_whole h (min n (last + 1)) t ordered
        (λ m least lt. let same : last ≡ m = omega (arith, most, least, lt) in subst (λ i. Kept i (early_of t)) same there)
event_first (read h) t ordered to up = first_whole h t ordered
event_first (meanwhile calls text is_refused) t ordered to up = refl

pub none_before : (events : List Event) (e : Event) (t : Told) → t.track.early ≡ [] → ((n : ℕ) → IsAmong n (with_captured e (captured_in events [])) → n ≤ (after_events events t).track.next)
    → after_event e (after_events events t) ≡ after_whole_event e (after_events events t)
unfolding AreTo
none_before events e t none up =
    let u = after_events events t in
    let ordered = events_ordered events t (new_ordered t none) in
    let kept : AreTo (next_of u) (early_of u) = events_kept (next_of u) [] events t (new_ordered t none) (λ n among. up n (with_before n e (captured_in events []) among)) (subst (AreTo (next_of u)) (sym none) tt) in
    event_first e u ordered kept (λ n among. up n (one_among n e (captured_in events []) among))
