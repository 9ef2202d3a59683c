-- A flow of which each item is captured is read whole.
use Rattle.std.proofs.Common.{◌≡◌, ◌∙◌, ap, sym, refl, subst, arith, ℕ, zero, suc, ◌+◌, ◌<◌, ◌≤◌, ◌==◌, true, false, cond, List, [], ◌∷◌, ◌++◌, length, take, drop, append_assoc, append-nil, inl, inr, ◌-◌, Option, Some, None, Ok, Err}
use Rattle.std.specs.Prelude.{IfOk, Result, map, min, nat_lt, slice_get}
use Rattle.std.proofs.lemmas.Bool.Decides.{nat_tests}
use Rattle.std.proofs.lemmas.Grind.{flat_map-append}
use Rattle.std.proofs.lemmas.List.{map-append}
use Rattle.std.proofs.lemmas.List.Elements.{filter-append}
use Rattle.std.proofs.Math.Seq.{drop-append_seam}
use Rattle.std.proofs.lemmas.Bool.{cond_both, ltb-false, ltb-true}
use Rattle.xns_spp.specs.declared.item.Item.{Item}
use Rattle.courier_messages.specs.Conversation.{Phase, conversation, ending, opening}
use Rattle.courier_messages.specs.Laws.{OneItemMore, SignsRunOn}
use Rattle.courier_messages.specs.Phases.{onwards, run, said, ◌then◌}
use Rattle.courier_messages.specs.Text.{signs, written}
use Rattle.courier_messages.specs.declared.fault.SessionFault.{SessionFault}
use Rattle.courier_messages.specs.declared.message.Message.{Message}
use Rattle.xns_calls.specs.Events.{AreWithinReach, Event, IsAmong, IsLate, acknowledged, after_event, after_events, captured, meanwhile, read, read_below, read_below_if, read_below_over, read_first_over, with_captured}
use Rattle.xns_calls.specs.Exchange.{first_track, is_repeat, up_to}
use Rattle.xns_calls.specs.Numbers.{most_early}
use Rattle.xns_calls.specs.Queue.{kept, last_kept_number}
use Rattle.xns_calls.specs.Reading.{Told, after_heard, read_next, said_item, with_kept_item}
use Rattle.xns_calls.specs.Speech.{speech_after, heard_at, heard_of, speech_at}
use Rattle.xns_calls.specs.Telling.{heard_text}
use Rattle.xns_calls.specs.Whole.{AreOf, HasItsItem, IsWhole, SaysConversation, ToldHeard, ToldMessage, flow_heard, flow_text, heard_below, heard_below_if, heard_first, heard_lines, heard_with, new_heard, new_text, of_courier, told_lines, told_message, told_messages}
use Rattle.xns_calls.specs.declared.carried.Carried.{Carried}
use Rattle.xns_calls.specs.declared.early.Early.{Early}
use Rattle.xns_calls.specs.declared.heading.Heading.{Heading}
use Rattle.xns_calls.specs.declared.heard.Heard.{Heard}
use Rattle.xns_calls.specs.declared.heard.Heard.TheVariants as heard
use Rattle.xns_calls.specs.declared.speech.Speech.{Speech}
use Rattle.xns_calls.specs.declared.speech.Speech.TheVariants.{Hearing, Waiting}
use Rattle.xns_calls.specs.declared.track.Track.{Track}
use Rattle.xns_calls.specs.Unanswered.{UnansweredCalls}
use Rattle.xns_calls.proofs.Comparing.{by_both, not_less}
use Rattle.xns_calls.proofs.Gaps.{AreKept, event_whole, kept_next, late_kept, rest_kept}
use Rattle.xns_calls.proofs.Known.{captured_in_known, event_ordered, kept_cases, known_step, event_known, new_ordered}
use Rattle.xns_calls.proofs.Ordered.{AreFrom, IsKnown, IsOrdered, Kept, next_of, read_next_of}
use Rattle.xns_calls.proofs.Steps.{early_of, next_early, with_early}

-- ---- what is heard of items

abbrev pub start : Speech
start = Hearing (opening [])

abbrev pub speech_behind : Speech → List Item → Speech
speech_behind s [] = s
speech_behind s (x ∷ xs) = speech_behind (speech_after s x) xs

abbrev pub heard_in : Speech → List Item → List Heard
heard_in s [] = []
heard_in s (x ∷ xs) = heard_of s x ∷ heard_in (speech_after s x) xs

speech_append : (s : Speech) (xs ys : List Item) → speech_behind s (xs ++ ys) ≡ speech_behind (speech_behind s xs) ys
speech_append s [] ys = refl
speech_append s (x ∷ xs) ys = speech_append (speech_after s x) xs ys

heard_append : (s : Speech) (xs ys : List Item) → heard_in s (xs ++ ys) ≡ heard_in s xs ++ heard_in (speech_behind s xs) ys
heard_append s [] ys = refl
heard_append s (x ∷ xs) ys = ap (λ t. heard_of s x ∷ t) (heard_append (speech_after s x) xs ys)

abbrev pub what : List ToldHeard → List Heard
what told = map (λ x. x.2) told

-- ---- the items so far

take_one : (xs : List Item) (n : ℕ) (x : Item) → slice_get xs n ≡ Some x → take (n + 1) xs ≡ take n xs ++ x ∷ []
take_one [] n x e = (cc)
take_one (y ∷ xs) zero x e = let is : y ≡ x = (cc) in ap (λ z. z ∷ []) is
take_one (y ∷ xs) (suc n) x e = let one : suc n + 1 ≡ suc (n + 1) = omega arith in rw one (ap (λ t. y ∷ t) (take_one xs n x e))

abbrev pub AreItems : List Item → List Early → Type 0
AreItems items [] = Unit {0}
AreItems items (e ∷ rest) = (slice_get items e.number ≡ Some e.item.item) × AreItems items rest

-- the items below the next one were said, and this was heard of them
pub record Stands (items : List Item) (t : Told) (hs : List Heard) : Type 0 where
  pub speech : t.track.speech ≡ speech_behind start (of_courier (take (next_of t) items))
  pub heard : hs ≡ heard_in start (of_courier (take (next_of t) items))

-- what is printed on the way is what is heard
record Went (items : List Item) (t u : Told) (hs : List Heard) (told : List ToldHeard) : Type 0 where
  text : u.text ≡ t.text ++ heard_lines told
  stands : Stands items u (hs ++ what told)
  kept : AreItems items (early_of u)

went_on : (items : List Item) (t u z : Told) (hs : List Heard) (told more : List ToldHeard) → Went items t u hs told → Went items u z (hs ++ what told) more → Went items t z hs (told ++ more)
went_on items t u z hs told more w v = record {
  text = v.text ∙ ap (λ x. x ++ heard_lines more) w.text ∙ append_assoc t.text (heard_lines told) (heard_lines more)
      ∙ ap (λ x. t.text ++ x) (sym (flat_map-append (λ (x : ToldHeard). heard_text x.0 x.1 x.2) told more));
  stands = subst (Stands items z)
      (append_assoc hs (what told) (what more) ∙ ap (λ x. hs ++ x) (sym (map-append (λ (x : ToldHeard). x.2) told more))) v.stands;
  kept = v.kept;
}

stayed : (items : List Item) (t : Told) (hs : List Heard) → AreItems items (early_of t) → Stands items t hs → Went items t t hs []
stayed items t hs kept s = record { text = sym (append-nil t.text); stands = subst (Stands items t) (sym (append-nil hs)) s; kept = kept }

courier_one : (xs : List Item) (x : Item) → (x.stream == 0) ≡ true → of_courier (xs ++ x ∷ []) ≡ of_courier xs ++ x ∷ []
courier_one xs x e = filter-append (λ (item : Item). item.stream == 0) xs (x ∷ []) ∙ ap (λ p. of_courier xs ++ cond p (x ∷ []) []) e

courier_none : (xs : List Item) (x : Item) → (x.stream == 0) ≡ false → of_courier (xs ++ x ∷ []) ≡ of_courier xs
courier_none xs x e = filter-append (λ (item : Item). item.stream == 0) xs (x ∷ []) ∙ ap (λ p. of_courier xs ++ cond p (x ∷ []) []) e ∙ append-nil (of_courier xs)

-- the next item is read
read_one : (items : List Item) (h : Heading) (item : Item) (t : Told) (hs : List Heard) → slice_get items (next_of t) ≡ Some item → AreItems items (early_of t) → Stands items t hs
    → Went items t (read_next h (next_of t + 1) item t) hs (heard_with h item t)
unfolding said_item after_heard
read_one items h item t hs is kept s = by_both (λ u told. Went items t u hs told) (item.stream == 0) (said_item h item onwards) onwards one [] courier other
  where
    onwards : Told
    onwards = record t { track = record t.track { next = next_of t + 1 } }

    before : List Item
    before = of_courier (take (next_of t) items)

    one : List ToldHeard
    one = (h, t.calls, heard_of t.track.speech item) ∷ []

    courier : (item.stream == 0) ≡ true → Went items t (said_item h item onwards) hs one
    courier e =
        let more : of_courier (take (next_of t + 1) items) ≡ before ++ item ∷ [] = ap of_courier (take_one items (next_of t) item is) ∙ courier_one (take (next_of t) items) item e in record {
          text = ap (λ x. t.text ++ x) (sym (append-nil (heard_text h t.calls (heard_of t.track.speech item))));
          stands = record {
            speech = ap (λ x. speech_after x item) s.speech ∙ sym (speech_append start before (item ∷ [])) ∙ ap (speech_behind start) (sym more);
            heard = ap (λ x. x ++ heard_of t.track.speech item ∷ []) s.heard ∙ ap (λ x. heard_in start before ++ heard_of x item ∷ []) s.speech
                ∙ sym (heard_append start before (item ∷ [])) ∙ ap (heard_in start) (sym more);
          };
          kept = kept;
        }

    other : (item.stream == 0) ≡ false → Went items t onwards hs []
    other e =
        let same : of_courier (take (next_of t + 1) items) ≡ before = ap of_courier (take_one items (next_of t) item is) ∙ courier_none (take (next_of t) items) item e in record {
          text = sym (append-nil t.text);
          stands = record {
            speech = s.speech ∙ ap (speech_behind start) (sym same);
            heard = append-nil hs ∙ s.heard ∙ ap (heard_in start) (sym same);
          };
          kept = kept;
        }

-- the first item that is kept comes next
one_went : (items : List Item) (h : Heading) (e : Early) (rest : List Early) (t : Told) (hs : List Heard) → early_of t ≡ e ∷ rest → e.number ≡ next_of t → AreItems items (e ∷ rest) → Stands items t hs
    → Went items t (read_next h (e.number + 1) e.item.item (with_early rest t)) hs (heard_with h e.item.item t)
one_went items h e rest t hs same first are s =
    let left : Told = with_early rest t in
    let told = heard_with h e.item.item t in
    let stands_left : Stands items left hs = record { speech = s.speech; heard = s.heard } in
    let read : Went items left (read_next h (next_of t + 1) e.item.item left) hs told = read_one items h e.item.item left hs (subst (λ n. slice_get items n ≡ Some e.item.item) first are.0) are.1 stands_left in
    let w = subst (λ n. Went items left (read_next h (n + 1) e.item.item left) hs told) (sym first) read in
    record { text = w.text; stands = w.stands; kept = w.kept }

-- the items below a number are read, where none of them is missing
below_went : (items : List Item) (h : Heading) (n : ℕ) (es : List Early) (t : Told) (hs : List Heard) → early_of t ≡ es → AreKept (next_of t) n es → AreFrom (next_of t) es → AreItems items es → Stands items t hs
    → Went items t (read_below_over h n es t) hs (heard_below h n es t)
below_went items h n [] t hs same all from are s = stayed items t hs (subst (AreItems items) (sym same) tt) s
below_went items h n (e ∷ rest) t hs same all from are s =
    by_both (λ u told. Went items t u hs told) (nat_lt e.number n) (read_below_over h n rest u) t (one ++ heard_below h n rest u) []
    (λ below.
    let lt : e.number < n = ltb-true e.number n below in
    let is : e.number ≡ next_of t = kept_next (next_of t) e rest from (all (next_of t) (omega arith) (omega (arith, lt, from.0))) in
    let w = one_went items h e rest t hs same is are s in
    let next : next_of u ≡ e.number + 1 = read_next_of h (e.number + 1) e.item.item left in
    went_on items t u (read_below_over h n rest u) hs one (heard_below h n rest u) w
    (below_went items h n rest u (hs ++ what one) (next_early h (e.number + 1) e.item.item left)
    (subst (λ k. AreKept k n rest) (sym next) (rest_kept n e rest (subst (λ k. AreKept k n (e ∷ rest)) (sym is) all)))
    (subst (λ k. AreFrom k rest) (sym next) from.1) are.1 w.stands))
    (λ above. stayed items t hs (subst (AreItems items) (sym same) are) s)
  where
    left : Told
    left = with_early rest t

    one : List ToldHeard
    one = heard_with h e.item.item t

    u : Told
    u = read_next h (e.number + 1) e.item.item left

-- the first item that is kept is read, if it comes next
first_went : (items : List Item) (h : Heading) (es : List Early) (t : Told) (hs : List Heard) → early_of t ≡ es → AreFrom (next_of t) es → AreItems items es → Stands items t hs
    → Went items t (read_first_over h es t) hs (heard_first h es t)
first_went items h [] t hs same from are s = stayed items t hs (subst (AreItems items) (sym same) tt) s
first_went items h (e ∷ rest) t hs same from are s =
    by_both (λ u told. Went items t u hs told) (nat_lt (next_of t) e.number) t (read_next h (e.number + 1) e.item.item (with_early rest t)) [] (heard_with h e.item.item t)
    (λ later. stayed items t hs (subst (AreItems items) (sym same) are) s)
    (λ due. let le : e.number ≤ next_of t = ltb-false (next_of t) e.number due in one_went items h e rest t hs same (omega (arith, le, from.0)) are s)

kept_items : (items : List Item) (k : ℕ) (item : Carried) (es : List Early) → slice_get items k ≡ Some item.item → AreItems items es → AreItems items (kept k item es)
kept_items items k item [] is are = (is, tt)
kept_items items k item (e ∷ rest) is are =
    subst (AreItems items) (sym (kept_cases (nat_lt e.number k) k item e rest refl))
    (cond_both (nat_lt e.number k) (e ∷ kept k item rest) (record { number = k; item = item } ∷ e ∷ rest) (AreItems items)
    (λ less. (are.0, kept_items items k item rest is are.1)) (λ more. (is, are)))

-- ---- one event

pub record Printed (items : List Item) (printed : List ℕ) (u : Told) (hs : List Heard) (told : List ToldHeard) : Type 0 where
  pub text : printed ≡ heard_lines told
  pub stands : Stands items u (hs ++ what told)
  pub kept : AreItems items (early_of u)

of_went : (items : List Item) (t u : Told) (hs : List Heard) (told : List ToldHeard) → Went items t u hs told → Printed items (drop (length t.text) u.text) u hs told
of_went items t u hs told w = record {
  text = ap (drop (length t.text)) w.text ∙ drop-append_seam t.text (heard_lines told);
  stands = w.stands;
  kept = w.kept;
}

-- what takes effect, or moves the flow on, reads what is kept
brought_went : (items : List Item) (h : Heading) (n : ℕ) (t : Told) (hs : List Heard) → IsOrdered t → AreKept (next_of t) n (early_of t) → AreItems items (early_of t) → Stands items t hs
    → Went items t (read_below h n t) hs (heard_below h n t.track.early t)
brought_went items h n t hs ordered all are s = below_went items h n t.track.early t hs refl all ordered are s

acknowledged_went : (items : List Item) (h : Heading) (o : Option ℕ) (n : ℕ) (t : Told) (hs : List Heard) → IsOrdered t → AreKept (next_of t) n (early_of t) → AreItems items (early_of t) → Stands items t hs
    → Went items t (read_below_if h (up_to o (Some n)) t) hs (heard_below_if h (up_to o (Some n)) t)
acknowledged_went items h None n t hs ordered all are s = stayed items t hs are s
acknowledged_went items h (Some last) n t hs ordered all are s = brought_went items h (min n (last + 1)) t hs ordered (λ m le lt. all m le (omega (arith, lt))) are s

event_went : (items : List Item) (first : ℕ) (before : List ℕ) (e : Event) (t : Told) (hs : List Heard) → IsOrdered t → ((n : ℕ) → n < first → IsKnown n t) → ((n : ℕ) → IsAmong n before → IsKnown n t)
    → ((n : ℕ) → first ≤ n → IsLate e n → IsAmong n before) → HasItsItem items e → AreItems items (early_of t) → Stands items t hs
    → Printed items (new_text e t) (after_event e t) hs (new_heard e t)
event_went items first before (captured h k item) t hs ordered low known late is are s =
    of_went items t (after_event (captured h k item) t) hs (new_heard (captured h k item) t)
    (subst (λ u. Went items t u hs (new_heard (captured h k item) t)) (sym (event_whole first before (captured h k item) t ordered low known late))
    (by_both (λ u told. Went items t u hs told) (is_repeat k t.track) t (with_kept_item k item (read_below h (k - most_early) t)) [] (heard_below h (k - most_early) t.track.early t)
    (λ old. stayed items t hs are s) (λ new. taken)))
  where
    taken : Went items t (with_kept_item k item (read_below h (k - most_early) t)) hs (heard_below h (k - most_early) t.track.early t)
    taken =
        let w = brought_went items h (k - most_early) t hs ordered (λ m le lt. late_kept first before t low known (λ n. n + most_early < k) late m le (omega (arith, lt))) are s in
        record { text = w.text; stands = record { speech = w.stands.speech; heard = w.stands.heard }; kept = kept_items items k item (early_of (read_below h (k - most_early) t)) is w.kept }
event_went items first before (acknowledged h n) t hs ordered low known late is are s =
    of_went items t (after_event (acknowledged h n) t) hs (new_heard (acknowledged h n) t)
    (subst (λ u. Went items t u hs (new_heard (acknowledged h n) t)) (sym (event_whole first before (acknowledged h n) t ordered low known late))
    (acknowledged_went items h (last_kept_number t.track.early) n t hs ordered (λ m le lt. late_kept first before t low known (λ i. i < n) late m le lt) are s))
event_went items first before (read h) t hs ordered low known late is are s =
    of_went items t (after_event (read h) t) hs (new_heard (read h) t)
    (subst (λ u. Went items t u hs (new_heard (read h) t)) (sym (event_whole first before (read h) t ordered low known late)) (first_went items h t.track.early t hs refl ordered are s))
event_went items first before (meanwhile calls text is_refused) t hs ordered low known late is are s = record {
  text = refl;
  stands = record { speech = s.speech; heard = append-nil hs ∙ s.heard };
  kept = are;
}

-- ---- all events

printed_on : (items : List Item) (first rest : List ℕ) (u z : Told) (hs : List Heard) (told more : List ToldHeard) → Printed items first u hs told → Printed items rest z (hs ++ what told) more
    → Printed items (first ++ rest) z hs (told ++ more)
printed_on items first rest u z hs told more p q = record {
  text = ap (λ x. x ++ rest) p.text ∙ ap (λ x. heard_lines told ++ x) q.text ∙ sym (flat_map-append (λ (x : ToldHeard). heard_text x.0 x.1 x.2) told more);
  stands = subst (Stands items z)
      (append_assoc hs (what told) (what more) ∙ ap (λ x. hs ++ x) (sym (map-append (λ (x : ToldHeard). x.2) told more))) q.stands;
  kept = q.kept;
}

events_went : (items : List Item) (first : ℕ) (before : List ℕ) (events : List Event) (t : Told) (hs : List Heard) → IsOrdered t → ((n : ℕ) → n < first → IsKnown n t) → ((n : ℕ) → IsAmong n before → IsKnown n t)
    → AreWithinReach first before events → AreOf items events → AreItems items (early_of t) → Stands items t hs → Printed items (flow_text events t) (after_events events t) hs (flow_heard events t)
events_went items first before [] t hs ordered low known within are kept s = record { text = refl; stands = record { speech = s.speech; heard = append-nil hs ∙ s.heard }; kept = kept }
events_went items first before (e ∷ more) t hs ordered low known within are kept s =
    let told = new_heard e t in
    let p = event_went items first before e t hs ordered low known within.0 are.0 kept s in
    printed_on items (new_text e t) (flow_text more (after_event e t)) (after_event e t) (after_events more (after_event e t)) hs told (flow_heard more (after_event e t)) p
    (events_went items first (with_captured e before) more (after_event e t) (hs ++ what told) (event_ordered e t ordered) (λ n lt. event_known n e t ordered (low n lt)) (known_step before e t ordered known) within.1 are.1 p.kept p.stands)

pub after_append : (xs ys : List Event) (t : Told) → after_events (xs ++ ys) t ≡ after_events ys (after_events xs t)
after_append [] ys t = refl
after_append (e ∷ xs) ys t = after_append xs ys (after_event e t)

-- ---- all items are read

-- where none is kept any more
all_read : (items : List Item) (events : List Event) (t : Told) → early_of t ≡ [] → IsWhole items events → early_of (after_events events t) ≡ [] → length items ≤ next_of (after_events events t)
all_read items events t none w left =
    not_less (next_of (after_events events t)) (length items)
    (λ lt. not_kept
    (captured_in_known [] events t (new_ordered t none) (λ n nothing. absurd nothing) (next_of (after_events events t)) (w.all (next_of (after_events events t)) lt)))
  where
    not_kept : IsKnown (next_of (after_events events t)) (after_events events t) → ⊥
    not_kept (inl lt) = omega (arith, lt)
    not_kept (inr k) = subst (Kept (next_of (after_events events t))) left k

take_over : (xs : List Item) (n : ℕ) → length xs ≤ n → take n xs ≡ xs
take_over [] zero le = refl
take_over [] (suc n) le = refl
take_over (x ∷ xs) zero le = absurd (omega (arith, le))
take_over (x ∷ xs) (suc n) le = ap (λ t. x ∷ t) (take_over xs n (omega (arith, le)))

pub first_of : (field : ℕ) (t : Told) → field < 64 → t.track ≡ first_track field → t.track ≡ record { next = 0; early = []; speech = start }
first_of field t small at =
    let test : nat_lt field 64 ≡ true = grind (arith, nat_tests) in
    at ∙ ap (λ p. cond p (record { next = 0; early = []; speech = start }) (record { next = field; early = []; speech = Waiting })) test

pub whole_printed : (items : List Item) (events : List Event) (t : Told) → t.track ≡ record { next = 0; early = []; speech = start } → IsWhole items events
    → Printed items (flow_text events t) (after_events events t) [] (flow_heard events t)
whole_printed items events t first w =
    let none : early_of t ≡ [] = ap (λ (x : Track). x.early) first in
    let zero_next : next_of t ≡ 0 = ap (λ (x : Track). x.next) first in
    let nothing : of_courier (take (next_of t) items) ≡ [] = ap (λ n. of_courier (take n items)) zero_next in
    let begun : Stands items t [] = record {
      speech = ap (λ (x : Track). x.speech) first ∙ ap (speech_behind start) (sym nothing);
      heard = ap (heard_in start) (sym nothing);
    } in
    events_went items 0 [] events t [] (new_ordered t none) (λ n lt. absurd (omega (arith, lt))) (λ n among. absurd among) w.reach w.of (subst (AreItems items) (sym none) tt) begun

-- ---- what is heard is the conversation, up to its first fault

record Says (ms : List Message) (r : Result Phase SessionFault) (told : List ToldHeard) : Type 0 where
  messages : List ToldMessage
  more : List ℕ
  lines : heard_lines told ≡ told_lines messages ++ more
  said : map (λ x. x.2) messages ≡ ms
  others : List ToldMessage
  heard : told_messages told ≡ messages ++ others
  whole : IfOk r (λ q. (more ≡ []) × (others ≡ []))

one_heard : (r : Result Phase SessionFault) (ms : List Message) (h : Heading) (calls : UnansweredCalls) (x : Heard) (fed : List Item) (rest : List ToldHeard) → length ms ≤ 1
    → ((e : SessionFault) → r ≡ Err e → ms ≡ []) → x ≡ heard_at ms r
    → ((q : Phase) → r ≡ Ok q → Says (said q (written fed)) (run q (written fed)) rest)
    → Says (ms ++ onwards r (λ q. said q (written fed))) (r then λ q. run q (written fed)) ((h, calls, x) ∷ rest)
one_heard (Err e) ms h calls x fed rest few silent is more =
    let none : ms ≡ [] = silent e refl in
    let told = (h, calls, x) ∷ rest in
    record { messages = []; more = heard_lines told; lines = refl; said = ap (λ l. l ++ []) (sym none); others = told_messages told; heard = refl; whole = tt }
one_heard (Ok q) [] h calls x fed rest few silent is more =
    let r = more q refl in record {
      messages = r.messages;
      more = r.more;
      lines = ap (λ y. heard_text h calls y ++ heard_lines rest) is ∙ r.lines;
      said = r.said;
      others = r.others;
      heard = ap (λ y. told_message (h, calls, y) ++ told_messages rest) is ∙ r.heard;
      whole = r.whole;
    }
one_heard (Ok q) (m ∷ []) h calls x fed rest few silent is more =
    let r = more q refl in
    record {
      messages = (h, calls, m) ∷ r.messages;
      more = r.more;
      lines = ap (λ y. heard_text h calls y ++ heard_lines rest) is ∙ ap (λ l. heard_text h calls (heard.Message m) ++ l) r.lines
          ∙ sym (append_assoc (heard_text h calls (heard.Message m)) (told_lines r.messages) r.more);
      said = ap (λ l. m ∷ l) r.said;
      others = r.others;
      heard = ap (λ y. told_message (h, calls, y) ++ told_messages rest) is ∙ ap (λ l. (h, calls, m) ∷ l) r.heard;
      whole = r.whole;
    }
one_heard (Ok q) (m ∷ n ∷ ms) h calls x fed rest few silent is more = absurd (omega (arith, few))

head_is : (x y : Heard) (xs ys : List Heard) → x ∷ xs ≡ y ∷ ys → x ≡ y
head_is x y xs ys e = (cc)

tail_is : (x y : Heard) (xs ys : List Heard) → x ∷ xs ≡ y ∷ ys → xs ≡ ys
tail_is x y xs ys e = (cc)

all_said : (runs : SignsRunOn) (law : OneItemMore) (p : Phase) (fed : List Item) (told : List ToldHeard) → what told ≡ heard_in (Hearing p) fed → Says (said p (written fed)) (run p (written fed)) told
unfolding run said
all_said runs law p [] [] e = record { messages = []; more = []; lines = refl; said = refl; others = []; heard = refl; whole = (refl, refl) }
all_said runs law p [] (y ∷ told) e = (cc)
all_said runs law p (x ∷ fed) [] e = (cc)
all_said runs law p (x ∷ fed) (y ∷ told) e =
    rw (runs.said_on p (signs x) (written fed), runs.run_on p (signs x) (written fed))
    (one_heard (run p (signs x)) (said p (signs x)) y.0 y.1 y.2 fed told (law.single x p) (λ f h. law.silent x p f h) (head_is y.2 (heard_of (Hearing p) x) (what told) (heard_in (speech_after (Hearing p) x) fed) e)
    (λ q leads. all_said runs law q fed told
    (tail_is y.2 (heard_of (Hearing p) x) (what told) (heard_in (speech_after (Hearing p) x) fed) e ∙ ap (λ r. heard_in (speech_at x.last r) fed) leads)))

-- of a flow of which nothing is kept any more
pub whole_said : (runs : SignsRunOn) (law : OneItemMore) → ((fed : List Item) → conversation fed ≡ said (opening []) (written fed)) → ((fed : List Item) → ending fed ≡ run (opening []) (written fed))
    → (items : List Item) (events : List Event) (field : ℕ) (t : Told) → field < 64 → t.track ≡ first_track field → IsWhole items events → early_of (after_events events t) ≡ []
    → SaysConversation (of_courier items) (flow_heard events t) (flow_text events t)
whole_said runs law messages ends items events field t small at w left =
    let fed = of_courier items in
    let first = first_of field t small at in
    let none : early_of t ≡ [] = ap (λ (x : Track). x.early) first in
    let p = whole_printed items events t first w in
    let all : take (next_of (after_events events t)) items ≡ items = take_over items (next_of (after_events events t)) (all_read items events t none w left) in
    let r = all_said runs law (opening []) fed (flow_heard events t) (p.stands.heard ∙ ap (λ l. heard_in start (of_courier l)) all) in record {
      all = p.text;
      messages = r.messages;
      more = r.more;
      lines = p.text ∙ r.lines;
      said = r.said ∙ sym (messages fed);
      others = r.others;
      heard = r.heard;
      whole = subst (λ q. IfOk q (λ phase. (r.more ≡ []) × (r.others ≡ []))) (sym (ends fed)) r.whole;
    }
