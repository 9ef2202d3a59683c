-- The items that a flow keeps have numbers near its next one, and are few.
use Rattle.std.proofs.Common.{◌≡◌, ◌∙◌, ap, sym, refl, subst, arith, inl, inr, ℕ, ◌+◌, ◌-◌, ◌<◌, ◌≤◌, Bool, List, [], ◌∷◌, length, Option, Some, None}
use Rattle.std.specs.Prelude.{nat_lt, max, slice_get}
use Rattle.std.proofs.lemmas.Bool.{cond_both}
use Rattle.xns_spp.specs.Ends.{most_pending}
use Rattle.xns_dump.specs.Laws.{FlowsAreToldApart}
use Rattle.xns_calls.specs.Calls.{known_of, nothing_known}
use Rattle.xns_calls.specs.Capture.{Known, scene_in}
use Rattle.xns_calls.specs.Events.{Event, acknowledged, after_event, after_events, brought_if, captured, meanwhile, read}
use Rattle.xns_calls.specs.Exchange.{is_repeat, up_to}
use Rattle.xns_calls.specs.Held.{AreBetween, FewItemsAreKept}
use Rattle.xns_calls.specs.Input.{first_field_from}
use Rattle.xns_calls.specs.Naming.{Programs}
use Rattle.xns_calls.specs.Numbers.{most_early}
use Rattle.xns_calls.specs.Over.{side_in}
use Rattle.xns_calls.specs.Queue.{kept, last_kept_number}
use Rattle.xns_calls.specs.Reading.{Told, brought, brought_over, item_read, passed}
use Rattle.xns_calls.specs.declared.carried.Carried.{Carried}
use Rattle.xns_calls.specs.declared.connection.Connection.{Connection}
use Rattle.xns_calls.specs.declared.early.Early.{Early}
use Rattle.xns_calls.specs.declared.heading.Heading.{Heading}
use Rattle.xns_calls.specs.declared.track.Track.{Track}
use Rattle.xns_calls.proofs.Begun.{IsOn}
use Rattle.xns_calls.proofs.Endings.{none_at_first}
use Rattle.xns_calls.proofs.Inputs.{numbered_from}
use Rattle.xns_calls.proofs.FirstLines.{lines_awaited, lines_met}
use Rattle.xns_calls.proofs.Happenings.{side_track}
use Rattle.xns_calls.proofs.Known.{early, event_ordered, events_ordered, kept_cases, new_ordered, with_item}
use Rattle.xns_calls.proofs.LastKept.{AreBelow}
use Rattle.xns_calls.proofs.Numbered.{IsNumbered, numbered_none}
use Rattle.xns_calls.proofs.Ordered.{AreFrom, Bears, IsOrdered, brought_bears, first_bears, item_next, next_of, passed_next}
use Rattle.xns_calls.proofs.Parts.{flow_at}
use Rattle.xns_calls.proofs.Places.{plain_places}
use Rattle.xns_calls.proofs.Steps.{early_of, passed_early, read_early, with_early}
use Rattle.xns_calls.proofs.Unbegun.{first_early}

-- ---- what a flow keeps lies near its next item

abbrev IsNear : Told → Type 0
IsNear t = AreBelow (next_of t + most_pending) (early_of t)

below_more : (n m : ℕ) (es : List Early) → n ≤ m → AreBelow n es → AreBelow m es
below_more n m [] le below = tt
below_more n m (e ∷ rest) le below = (omega (arith, le, below.0), below_more n m rest le below.1)

below_rest : (n : ℕ) (e : Early) (rest : List Early) → AreBelow n (e ∷ rest) → AreBelow n rest
below_rest n e rest below = below.1

near_read : (h : Heading) (e : Early) (rest : List Early) (t : Told) → early_of t ≡ e ∷ rest → next_of t ≤ e.number → IsNear t → IsNear (item_read h e (with_early rest t))
near_read h e rest t same le near =
    let u = item_read h e (with_early rest t) in
    let next : next_of u ≡ e.number + 1 = item_next h e (with_early rest t) in
    let old : AreBelow (next_of t + most_pending) rest = below_rest (next_of t + most_pending) e rest (subst (AreBelow (next_of t + most_pending)) same near) in
    subst (AreBelow (next_of u + most_pending)) (sym (read_early h e (with_early rest t)))
    (below_more (next_of t + most_pending) (next_of u + most_pending) rest (omega (arith, next, le)) old)

near_passed : (h : Heading) (n : ℕ) (t : Told) → IsNear t → IsNear (passed h n t)
near_passed h n t near =
    let u = passed h n t in
    let next : next_of u ≡ max (next_of t) n = passed_next h n t in
    subst (AreBelow (next_of u + most_pending)) (sym (passed_early h n t))
    (below_more (next_of t + most_pending) (next_of u + most_pending) (early_of t) (omega (arith, next)) near)

near_bears : (h : Heading) (n : ℕ) → Bears IsNear h n
near_bears h n = record { reads = λ e rest t same le due near. near_read h e rest t same le near; passes = λ t near. near_passed h n t near }

-- a flow that is brought to a number comes there
over_reaches : (h : Heading) (n : ℕ) (es : List Early) (t : Told) → n ≤ next_of (brought_over h n es t)
over_reaches h n [] t = let next : next_of (passed h n t) ≡ max (next_of t) n = passed_next h n t in omega (arith, next)
over_reaches h n (e ∷ rest) t =
    let u = item_read h e (with_early rest t) in
    cond_both (nat_lt e.number n) (brought_over h n rest u) (passed h n t) (λ (x : Told). n ≤ next_of x)
    (λ due. over_reaches h n rest u)
    (λ later. let next : next_of (passed h n t) ≡ max (next_of t) n = passed_next h n t in omega (arith, next))

brought_reaches : (h : Heading) (n : ℕ) (t : Told) → n ≤ next_of (brought h n t)
unfolding brought
brought_reaches h n t = over_reaches h n t.track.early t

kept_below : (bound k : ℕ) (item : Carried) (es : List Early) → k < bound → AreBelow bound es → AreBelow bound (kept k item es)
kept_below bound k item [] lt below = (lt, tt)
kept_below bound k item (e ∷ rest) lt below =
    subst (AreBelow bound) (sym (kept_cases (nat_lt e.number k) k item e rest refl))
    (cond_both (nat_lt e.number k) (e ∷ kept k item rest) (early k item ∷ e ∷ rest) (AreBelow bound) (λ less. (below.0, kept_below bound k item rest lt below.1)) (λ more. (lt, below)))

near_if : (h : Heading) (o : Option ℕ) (t : Told) → IsOrdered t → IsNear t → IsNear (brought_if h o t)
near_if h None t ordered near = near
near_if h (Some n) t ordered near = brought_bears IsNear h n t (near_bears h n) ordered near

event_near : (e : Event) (t : Told) → IsOrdered t → IsNear t → IsNear (after_event e t)
event_near (captured h k item) t ordered near =
    let u = brought h (k - most_early) t in
    let there : k - 63 ≤ next_of u = brought_reaches h (k - most_early) t in
    let lt : k < next_of u + 64 = omega (arith, there) in
    cond_both (is_repeat k t.track) t (with_item k item u) IsNear (λ old. near)
    (λ new. kept_below (next_of u + most_pending) k item (early_of u) lt (brought_bears IsNear h (k - most_early) t (near_bears h (k - most_early)) ordered near))
event_near (acknowledged h n) t ordered near = near_if h (up_to (last_kept_number t.track.early) (Some n)) t ordered near
event_near (read h) t ordered near = first_bears IsNear h (λ e rest u same le now. near_read h e rest u same le now) t ordered near
event_near (meanwhile calls text is_refused) t ordered near = near

events_near : (events : List Event) (t : Told) → IsOrdered t → IsNear t → IsNear (after_events events t)
events_near [] t ordered near = near
events_near (e ∷ more) t ordered near = events_near more (after_event e t) (event_ordered e t ordered) (event_near e t ordered near)

new_near : (t : Told) → t.track.early ≡ [] → IsNear t
new_near t none = subst (AreBelow (next_of t + most_pending)) (sym none) tt

-- ---- the numbers, and how many there are

are_between : (least most : ℕ) (es : List Early) → AreFrom least es → AreBelow (most + 1) es → AreBetween least most es
are_between least most [] from below = tt
are_between least most (e ∷ rest) from below = (from.0, omega (arith, below.0), are_between (e.number + 1) most rest from.1 below.1)

are_few : (least bound : ℕ) (es : List Early) → AreFrom least es → AreBelow bound es → length es ≤ bound - least
are_few least bound [] from below = omega arith
are_few least bound (e ∷ rest) from below = let few = are_few (e.number + 1) bound rest from.1 below.1 in omega (arith, few, from.0, below.0)

-- ---- behind whatever lines

record IsKeptNear (track : Track) : Type 0 where
  from : AreFrom track.next track.early
  below : AreBelow (track.next + most_pending) track.early

kept_near : FlowsAreToldApart → (programs : Programs) (lines : List (List ℕ)) (i : ℕ) (c : Connection) (b : Bool) (track : Track)
    → slice_get (known_of programs lines).connections i ≡ Some c → (side_in b c).track ≡ Some track → IsKeptNear track
kept_near apart programs lines i c b track there at = by_field (first_field_from programs (flow_at c.number b) 1 nothing_known lines) refl
  where
    k : Known
    k = known_of programs lines

    numbered : IsNumbered k.connections k.count
    numbered = numbered_from programs 1 nothing_known lines numbered_none

    by_stand : (t : Told) → IsOrdered t → IsNear t → IsOn c.number b k t → IsKeptNear track
    by_stand t ordered near (inl a) =
        let place : a.place ≡ i = numbered.alone a.place i a.connection c a.there there a.number in
        let some : Some a.connection ≡ Some c = sym a.there ∙ ap (slice_get k.connections) place ∙ there in
        let one : a.connection ≡ c = (cc) in
        let both : Some t.track ≡ Some track = sym a.track ∙ ap (λ (x : Connection). (scene_in b x k).own.track) one ∙ side_track b c k ∙ at in
        let same : t.track ≡ track = (cc) in
        subst IsKeptNear same (record { from = ordered; below = near })
    by_stand t ordered near (inr gone) = absurd (gone.none i c there refl)

    by_field : (o : Option ℕ) → first_field_from programs (flow_at c.number b) 1 nothing_known lines ≡ o → IsKeptNear track
    by_field None e =
        let none : (side_in b c).track ≡ None = lines_awaited programs (plain_places apart) 1 c.number b nothing_known numbered_none (none_at_first c.number b) lines e i c there refl in
        absurd (let wrong : None ≡ Some track = sym none ∙ at in (cc))
    by_field (Some first) e =
        let w = lines_met programs (plain_places apart) 1 c.number b nothing_known numbered_none (none_at_first c.number b) lines first e in
        let empty : w.start.track.early ≡ [] = ap (λ (x : Track). x.early) w.track ∙ first_early first in
        by_stand (after_events w.events w.start) (events_ordered w.events w.start (new_ordered w.start empty)) (events_near w.events w.start (new_ordered w.start empty) (new_near w.start empty)) w.stands

pub few_kept : FlowsAreToldApart → FewItemsAreKept
few_kept apart = record {
  near = λ programs lines i c b track there at.
      let w = kept_near apart programs lines i c b track there at in
      are_between track.next (track.next + most_early) track.early w.from (below_more (track.next + most_pending) (track.next + most_early + 1) track.early (omega arith) w.below);
  few = λ programs lines i c b track there at.
      let w = kept_near apart programs lines i c b track there at in
      let few = are_few track.next (track.next + most_pending) track.early w.from w.below in omega (arith, few);
}
