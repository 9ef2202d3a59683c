-- An item that was captured stays known: it was read or passed over, or it is kept. An item that is known is a repeat, and changes nothing.
use Rattle.std.proofs.Common.{◌≡◌, ◌∙◌, ap, sym, refl, subst, arith, ℕ, suc, ◌+◌, ◌-◌, ◌<◌, ◌≤◌, ◌==◌, ◌⊎◌, inl, inr, Bool, true, false, cond, List, [], ◌∷◌, Option, Some, None}
use Rattle.std.specs.Prelude.{nat_lt, ◌||◌}
use Rattle.std.specs.List.{insert, list_any}
use Rattle.std.proofs.lemmas.Bool.{cond_both, eq-eqb, eqb-true, lt-ltb, ltb-false, ltb-true, or_left, or_right}
use Rattle.xns_calls.specs.declared.carried.Carried.{Carried}
use Rattle.xns_calls.specs.declared.early.Early.{Early}
use Rattle.xns_calls.specs.declared.heading.Heading.{Heading}
use Rattle.xns_calls.specs.Events.{Event, IsAmong, acknowledged, after_event, after_events, brought_if, captured, captured_in, meanwhile, read, with_captured}
use Rattle.xns_calls.specs.Exchange.{is_repeat, up_to}
use Rattle.xns_calls.specs.Numbers.{most_early}
use Rattle.xns_calls.specs.Queue.{below, kept, last_kept_number}
use Rattle.xns_calls.specs.Reading.{Told, brought, first_read, with_kept_item}
use Rattle.xns_calls.proofs.Steps.{early_of, passed_early, read_early, with_early}
use Rattle.xns_calls.proofs.Comparing.{not_less, other_than}
use Rattle.xns_calls.proofs.Ordered.{AreFrom, Bears, IsKnown, IsOrdered, Kept, brought_bears, brought_ordered, first_bears, first_ordered, item_next, known_bears, known_read, next_of, passed_next}

-- ---- an item more is kept

abbrev pub early : ℕ → Carried → Early
early k item = record { number = k; item = item }

pub kept_cases : (p : Bool) (k : ℕ) (item : Carried) (e : Early) (rest : List Early) → nat_lt e.number k ≡ p → kept k item (e ∷ rest) ≡ cond p (e ∷ kept k item rest) (early k item ∷ e ∷ rest)
kept_cases true k item e rest test =
    let one : 1 + below k rest ≡ suc (below k rest) = omega arith in
    ap (λ (b : Bool). insert (e ∷ rest) (cond b (1 + below k rest) 0) (record { number = k; item = item })) test ∙ ap (λ n. insert (e ∷ rest) n (early k item)) one
kept_cases false k item e rest test = ap (λ (b : Bool). insert (e ∷ rest) (cond b (1 + below k rest) 0) (record { number = k; item = item })) test

kept_from : (n k : ℕ) (item : Carried) (es : List Early) → AreFrom n es → n ≤ k → (Kept k es → ⊥) → AreFrom n (kept k item es)
kept_from n k item [] from le new = (le, tt)
kept_from n k item (e ∷ rest) from le new =
    subst (AreFrom n) (sym (kept_cases (nat_lt e.number k) k item e rest refl))
    (cond_both (nat_lt e.number k) (e ∷ kept k item rest) (early k item ∷ e ∷ rest) (AreFrom n)
    (λ less. (from.0, kept_from (e.number + 1) k item rest from.1 (omega (arith, ltb-true e.number k less)) (λ old. new (inr old))))
    (λ more. front (ltb-false e.number k more)))
  where
    front : k ≤ e.number → AreFrom n (early k item ∷ e ∷ rest)
    front up = (le, (other_than e.number k (λ same. new (inl same)) up, from.1))

has_behind : (m k : ℕ) (e : Early) (rest new : List Early) → ((m ≡ k) ⊎ Kept m rest → Kept m new) → (m ≡ k) ⊎ Kept m (e ∷ rest) → Kept m (e ∷ new)
has_behind m k e rest new more (inl is) = inr (more (inl is))
has_behind m k e rest new more (inr (inl first)) = inl first
has_behind m k e rest new more (inr (inr old)) = inr (more (inr old))

has_front : (m k : ℕ) (item : Carried) (es : List Early) → (m ≡ k) ⊎ Kept m es → Kept m (early k item ∷ es)
has_front m k item es (inl is) = inl (sym is)
has_front m k item es (inr old) = inr old

kept_has : (m k : ℕ) (item : Carried) (es : List Early) → (m ≡ k) ⊎ Kept m es → Kept m (kept k item es)
kept_has m k item [] h = has_front m k item [] h
kept_has m k item (e ∷ rest) h =
    subst (Kept m) (sym (kept_cases (nat_lt e.number k) k item e rest refl))
    (cond_both (nat_lt e.number k) (e ∷ kept k item rest) (early k item ∷ e ∷ rest) (Kept m) (λ less. has_behind m k e rest (kept k item rest) (kept_has m k item rest) h) (λ more. has_front m k item (e ∷ rest) h))

-- ---- what a repeat is

any_kept : (m : ℕ) (es : List Early) → Kept m es → list_any (λ early. early.number == m) es ≡ true
any_kept m [] none = absurd none
any_kept m (e ∷ rest) (inl is) = or_left (e.number == m) (list_any (λ early. early.number == m) rest) (eq-eqb e.number m is)
any_kept m (e ∷ rest) (inr k) = or_right (e.number == m) (list_any (λ early. early.number == m) rest) (any_kept m rest k)

-- what is known is a repeat
repeat_known : (m : ℕ) (t : Told) → IsKnown m t → is_repeat m t.track ≡ true
repeat_known m t (inl lt) = or_left (nat_lt m t.track.next) (list_any (λ early. early.number == m) t.track.early) (lt-ltb m t.track.next lt)
repeat_known m t (inr k) = or_right (nat_lt m t.track.next) (list_any (λ early. early.number == m) t.track.early) (any_kept m t.track.early k)

not_known : (m : ℕ) (t : Told) → is_repeat m t.track ≡ false → IsKnown m t → ⊥
not_known m t new known = no_both (is_repeat m t.track) new (repeat_known m t known)
  where
    no_both : (p : Bool) → p ≡ false → p ≡ true → ⊥
    no_both true e f = (cc)
    no_both false e f = (cc)

any_tells : (m : ℕ) (es : List Early) → list_any (λ early. early.number == m) es ≡ true → Kept m es
any_tells m [] none = (cc)
any_tells m (e ∷ rest) test = one_of (e.number == m) refl test (any_tells m rest)
  where
    one_of : (p : Bool) → (e.number == m) ≡ p → (p || list_any (λ early. early.number == m) rest) ≡ true → (list_any (λ early. early.number == m) rest ≡ true → Kept m rest) → Kept m (e ∷ rest)
    one_of true is all more = inl (eqb-true e.number m is)
    one_of false is all more = inr (more all)

-- a repeat is known
known_repeat : (m : ℕ) (t : Told) → is_repeat m t.track ≡ true → IsKnown m t
known_repeat m t old = one_of (nat_lt m t.track.next) refl old
  where
    one_of : (p : Bool) → nat_lt m t.track.next ≡ p → (p || list_any (λ early. early.number == m) t.track.early) ≡ true → IsKnown m t
    one_of true lt all = inl (ltb-true m t.track.next lt)
    one_of false lt all = inr (any_tells m t.track.early all)

-- what is new, and what it is brought to, lies behind the flow
record IsBehind (k : ℕ) (t : Told) : Type 0 where
  up : next_of t ≤ k
  new : Kept k (early_of t) → ⊥

kept_first : (k : ℕ) (e : Early) (rest : List Early) (t : Told) → early_of t ≡ e ∷ rest → Kept k (e ∷ rest) → Kept k (early_of t)
kept_first k e rest t same h = subst (Kept k) (sym same) h

behind_bears : (k : ℕ) (h : Heading) (n : ℕ) → n ≤ k → Bears (IsBehind k) h n
behind_bears k h n le = record {
  reads = λ e rest t same from due b.
      let lt : e.number + 1 ≤ k = omega (arith, due, le) in record {
        up = subst (λ m. m ≤ k) (sym (item_next h e (with_early rest t))) lt;
        new = λ old. b.new (kept_first k e rest t same (inr (subst (Kept k) (read_early h e (with_early rest t)) old)));
      };
  passes = λ t b. record {
    up = subst (λ m. m ≤ k) (sym (passed_next h n t)) (omega (arith, le, b.up));
    new = λ old. b.new (subst (Kept k) (passed_early h n t) old);
  };
}

-- ---- events

abbrev pub with_item : ℕ → Carried → Told → Told
with_item k item t = with_kept_item k item t

-- the flow is ready for an item that is new
record IsReady (k : ℕ) (t : Told) : Type 0 where
  from : AreFrom (next_of t) (early_of t)
  behind : IsBehind k t

new_ready : (k : ℕ) (t : Told) → IsOrdered t → is_repeat k t.track ≡ false → IsReady k t
new_ready k t ordered new = record {
  from = ordered;
  behind = record { up = not_less k (next_of t) (λ lt. not_known k t new (inl lt)); new = λ old. not_known k t new (inr old) };
}

ready : (h : Heading) (k : ℕ) (t : Told) → IsOrdered t → is_repeat k t.track ≡ false → IsReady k (brought h (k - most_early) t)
ready h k t ordered new = record {
  from = brought_ordered h (k - most_early) t ordered;
  behind = brought_bears (IsBehind k) h (k - most_early) t (behind_bears k h (k - most_early) (omega arith)) ordered (new_ready k t ordered new).behind;
}

kept_ready : (k : ℕ) (item : Carried) (t : Told) → IsReady k t → IsOrdered (with_item k item t)
kept_ready k item t r = kept_from (next_of t) k item (early_of t) r.from r.behind.up r.behind.new

brought_if_ordered : (h : Heading) (o : Option ℕ) (t : Told) → IsOrdered t → IsOrdered (brought_if h o t)
brought_if_ordered h None t ordered = ordered
brought_if_ordered h (Some n) t ordered = brought_ordered h n t ordered

pub event_ordered : (e : Event) (t : Told) → IsOrdered t → IsOrdered (after_event e t)
event_ordered (captured h k item) t ordered =
    cond_both (is_repeat k t.track) t (with_item k item (brought h (k - most_early) t)) IsOrdered (λ old. ordered)
    (λ new. kept_ready k item (brought h (k - most_early) t) (ready h k t ordered new))
event_ordered (acknowledged h n) t ordered = brought_if_ordered h (up_to (last_kept_number t.track.early) (Some n)) t ordered
event_ordered (read h) t ordered = first_ordered h t ordered
event_ordered (meanwhile calls text is_refused) t ordered = ordered

brought_known : (m : ℕ) (h : Heading) (n : ℕ) (t : Told) → IsOrdered t → IsKnown m t → IsKnown m (brought h n t)
brought_known m h n t from known = brought_bears (IsKnown m) h n t (known_bears m h n) from known

first_known : (m : ℕ) (h : Heading) (t : Told) → IsOrdered t → IsKnown m t → IsKnown m (first_read h t)
first_known m h t ordered known = first_bears (IsKnown m) h (λ e rest u same le k. known_read m h e rest u same le k) t ordered known

brought_if_known : (m : ℕ) (h : Heading) (o : Option ℕ) (t : Told) → IsOrdered t → IsKnown m t → IsKnown m (brought_if h o t)
brought_if_known m h None t ordered known = known
brought_if_known m h (Some n) t ordered known = brought_known m h n t ordered known

kept_known : (m k : ℕ) (item : Carried) (t : Told) → IsKnown m t → IsKnown m (with_item k item t)
kept_known m k item t (inl lt) = inl lt
kept_known m k item t (inr old) = inr (kept_has m k item (early_of t) (inr old))

pub event_known : (m : ℕ) (e : Event) (t : Told) → IsOrdered t → IsKnown m t → IsKnown m (after_event e t)
event_known m (captured h k item) t ordered known =
    cond_both (is_repeat k t.track) t (with_item k item (brought h (k - most_early) t)) (IsKnown m) (λ old. known)
    (λ new. kept_known m k item (brought h (k - most_early) t) (brought_known m h (k - most_early) t ordered known))
event_known m (acknowledged h n) t ordered known = brought_if_known m h (up_to (last_kept_number t.track.early) (Some n)) t ordered known
event_known m (read h) t ordered known = first_known m h t ordered known
event_known m (meanwhile calls text is_refused) t ordered known = known

-- a captured item is known
captured_known : (h : Heading) (k : ℕ) (item : Carried) (t : Told) → IsOrdered t → IsKnown k (after_event (captured h k item) t)
captured_known h k item t ordered =
    cond_both (is_repeat k t.track) t (with_item k item (brought h (k - most_early) t)) (IsKnown k) (λ old. known_repeat k t old)
    (λ new. inr (kept_has k k item (early_of (brought h (k - most_early) t)) (inl refl)))

-- ---- what is captured is known

pub known_step : (before : List ℕ) (e : Event) (t : Told) → IsOrdered t → ((n : ℕ) → IsAmong n before → IsKnown n t) → (n : ℕ) → IsAmong n (with_captured e before) → IsKnown n (after_event e t)
known_step before (captured h k item) t ordered known n (inl is) = subst (λ m. IsKnown m (after_event (captured h k item) t)) (sym is) (captured_known h k item t ordered)
known_step before (captured h k item) t ordered known n (inr old) = event_known n (captured h k item) t ordered (known n old)
known_step before (acknowledged h k) t ordered known n old = event_known n (acknowledged h k) t ordered (known n old)
known_step before (read h) t ordered known n old = event_known n (read h) t ordered (known n old)
known_step before (meanwhile calls text is_refused) t ordered known n old = known n old

pub events_ordered : (events : List Event) (t : Told) → IsOrdered t → IsOrdered (after_events events t)
events_ordered [] t ordered = ordered
events_ordered (e ∷ more) t ordered = events_ordered more (after_event e t) (event_ordered e t ordered)

events_known : (n : ℕ) (events : List Event) (t : Told) → IsOrdered t → IsKnown n t → IsKnown n (after_events events t)
events_known n [] t ordered known = known
events_known n (e ∷ more) t ordered known = events_known n more (after_event e t) (event_ordered e t ordered) (event_known n e t ordered known)

pub captured_in_known : (before : List ℕ) (events : List Event) (t : Told) → IsOrdered t → ((n : ℕ) → IsAmong n before → IsKnown n t) → (n : ℕ) → IsAmong n (captured_in events before) → IsKnown n (after_events events t)
captured_in_known before [] t ordered known n among = known n among
captured_in_known before (e ∷ more) t ordered known n among =
    captured_in_known (with_captured e before) more (after_event e t) (event_ordered e t ordered) (known_step before e t ordered known) n among

pub new_ordered : (t : Told) → t.track.early ≡ [] → IsOrdered t
new_ordered t none = subst (AreFrom (next_of t)) (sym none) tt

-- an item that was captured before changes nothing
pub repeated : (events : List Event) (h : Heading) (number : ℕ) (item : Carried) (t : Told) → t.track.early ≡ [] → (number < t.track.next) ⊎ IsAmong number (captured_in events [])
    → after_event (captured h number item) (after_events events t) ≡ after_events events t
repeated events h number item t none old =
    let u = after_events events t in
    ap (λ p. cond p u (with_item number item (brought h (number - most_early) u))) (repeat_known number u (is_known old))
  where
    is_known : (number < t.track.next) ⊎ IsAmong number (captured_in events []) → IsKnown number (after_events events t)
    is_known (inl lt) = events_known number events t (new_ordered t none) (inl lt)
    is_known (inr among) = captured_in_known [] events t (new_ordered t none) (λ n nothing. absurd nothing) number among
