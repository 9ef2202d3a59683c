-- A flow of which each item is captured, and what it keeps at its end.
use Rattle.std.proofs.Common.{◌≡◌, ◌∙◌, ap, sym, refl, subst, arith, ℕ, zero, suc, ◌+◌, ◌-◌, ◌<◌, ◌≤◌, List, [], ◌∷◌, ◌++◌, length, append-nil, Option, Some, None}
use Rattle.std.specs.Prelude.{IfSome, option_map, slice_get}
use Rattle.std.proofs.lemmas.Grind.{flat_map-append}
use Rattle.std.proofs.lemmas.Option.{slice_get_within}
use Rattle.xns_spp.specs.declared.item.Item.{Item}
use Rattle.courier_messages.specs.Conversation.{conversation, ending, opening}
use Rattle.courier_messages.specs.Laws.{OneItemMore, SignsRunOn}
use Rattle.courier_messages.specs.Phases.{run, said}
use Rattle.courier_messages.specs.Text.{written}
use Rattle.xns_calls.specs.Events.{AreWithinReach, Event, IsAmong, acknowledged, acknowledged_event, after_events, captured_in, with_captured}
use Rattle.xns_calls.specs.Exchange.{behind_last, first_track}
use Rattle.xns_calls.specs.Queue.{last_kept_number}
use Rattle.xns_calls.specs.Reading.{Told}
use Rattle.xns_calls.specs.Whole.{AreOf, IsWhole, SaysConversation, flow_heard, flow_text, of_courier, with_end_read}
use Rattle.xns_calls.specs.declared.early.Early.{Early}
use Rattle.xns_calls.specs.declared.heading.Heading.{Heading}
use Rattle.xns_calls.specs.declared.track.Track.{Track}
use Rattle.xns_calls.proofs.Fits.{acks_captured, acks_of, acks_reach, captured_both, of_both, reach_both}
use Rattle.xns_calls.proofs.Known.{events_ordered, new_ordered}
use Rattle.xns_calls.proofs.LastKept.{AreAcks, AreBelow, end_empty}
use Rattle.xns_calls.proofs.Parts.{plain, plain_one}
use Rattle.xns_calls.proofs.Steps.{early_of}
use Rattle.xns_calls.proofs.Whole.{AreItems, after_append, first_of, start, whole_printed, whole_said}

-- an acknowledgement of no more than all items leaves the flow whole
whole_with : (items : List Item) (events : List Event) (h : Heading) (o : Option ℕ) → IsWhole items events → IfSome o (λ n. n ≤ length items) → IsWhole items (events ++ acknowledged_event h o)
whole_with items events h None w bound = subst (IsWhole items) (sym (append-nil events)) w
whole_with items events h (Some last) w bound = record {
  of = of_append events w.of;
  all = λ n lt. subst (IsAmong n) (sym (captured_append events [])) (w.all n lt);
  reach = reach_append events [] w.reach (λ n lt. w.all n (omega (arith, lt, bound)));
}
  where
    acks : List Event
    acks = acknowledged h last ∷ []

    of_append : (es : List Event) → AreOf items es → AreOf items (es ++ acks)
    of_append [] a = (tt, tt)
    of_append (e ∷ more) a = (a.0, of_append more a.1)

    captured_append : (es : List Event) (before : List ℕ) → captured_in (es ++ acks) before ≡ captured_in es before
    captured_append [] before = refl
    captured_append (e ∷ more) before = captured_append more (with_captured e before)

    reach_append : (es : List Event) (before : List ℕ) → AreWithinReach 0 before es → ((n : ℕ) → n < last → IsAmong n (captured_in es before)) → AreWithinReach 0 before (es ++ acks)
    reach_append [] before a late = (λ n le lt. late n lt, tt)
    reach_append (e ∷ more) before a late = (a.0, reach_append more (with_captured e before) a.1 late)

last_item : (items : List Item) (es : List Early) (i last : ℕ) → AreItems items es → option_map (λ (e : Early). e.number) (slice_get es i) ≡ Some last → last < length items
last_item items [] i last are is = (cc)
last_item items (e ∷ es) zero last are is = let same : e.number ≡ last = (cc) in subst (λ n. n < length items) same (slice_get_within items e.number e.item.item are.0)
last_item items (e ∷ es) (suc i) last are is = last_item items es i last are.1 is

end_bound : (items : List Item) (events : List Event) (t : Told) → t.track ≡ record { next = 0; early = []; speech = start } → IsWhole items events
    → IfSome (behind_last (Some (after_events events t).track)) (λ n. n ≤ length items)
end_bound items events t first w = by_last (last_kept_number u.track.early) refl
  where
    u : Told
    u = after_events events t

    by_last : (o : Option ℕ) → last_kept_number u.track.early ≡ o → IfSome (option_map (λ number. number + 1) o) (λ n. n ≤ length items)
    by_last None is = tt
    by_last (Some last) is =
        let below : last < length items = last_item items u.track.early (length u.track.early - 1) last (whole_printed items events t first w).kept is in omega (arith, below)

-- what is said of a flow whose end comes is its conversation
pub whole_end_said : (runs : SignsRunOn) (law : OneItemMore) → ((fed : List Item) → conversation fed ≡ said (opening []) (written fed)) → ((fed : List Item) → ending fed ≡ run (opening []) (written fed))
    → (items : List Item) (events : List Event) (field : ℕ) (t : Told) (h : Heading) → field < 64 → t.track ≡ first_track field → IsWhole items events
    → SaysConversation (of_courier items) (flow_heard (with_end_read h events t) t) (flow_text (with_end_read h events t) t)
whole_end_said runs law messages ends items events field t h small at w =
    let u = after_events events t in
    let acks = acknowledged_event h (behind_last (Some u.track)) in
    let first = first_of field t small at in
    let none : early_of t ≡ [] = ap (λ (x : Track). x.early) first in
    whole_said runs law messages ends items (events ++ acks) field t small at (whole_with items events h (behind_last (Some u.track)) w (end_bound items events t first w))
    (ap early_of (after_append events acks t) ∙ end_empty h u (events_ordered events t (new_ordered t none)))

-- ---- what a flow keeps are items of its own

kept_below : (items : List Item) (es : List Early) → AreItems items es → AreBelow (length items) es
kept_below items [] are = tt
kept_below items (e ∷ rest) are = (slice_get_within items e.number e.item.item are.0, kept_below items rest are.1)

pub whole_below : (items : List Item) (events : List Event) (t : Told) → t.track ≡ record { next = 0; early = []; speech = start } → IsWhole items events
    → AreBelow (length items) (early_of (after_events events t))
whole_below items events t first w = kept_below items (early_of (after_events events t)) (whole_printed items events t first w).kept

-- events that acknowledge no more than all items leave the flow whole
pub acks_whole : (items : List Item) (events more : List Event) → IsWhole items (plain events) → AreAcks (length items) more → IsWhole items (plain (events ++ more))
acks_whole items events more w a = subst (IsWhole items) (sym (flat_map-append plain_one events more)) (record {
  of = of_both items (plain events) (plain more) w.of (acks_of (length items) items more a);
  all = λ n lt. subst (IsAmong n) (sym (captured_both (plain events) (plain more) [] ∙ acks_captured (length items) more (captured_in (plain events) []) a)) (w.all n lt);
  reach = reach_both (plain events) (plain more) [] w.reach (acks_reach (length items) more (captured_in (plain events) []) a w.all);
})
