-- What is read of a connection at its end, as events of its flows.
use Rattle.std.proofs.Common.{◌≡◌, ◌∙◌, ap, sym, refl, subst, ℕ, zero, suc, ◌+◌, Bool, true, false, List, [], ◌∷◌, ◌++◌, length, drop, append-nil, Option, Some, None}
use Rattle.std.specs.Prelude.{not}
use Rattle.std.proofs.lemmas.Grind.{flat_map-append}
use Rattle.std.proofs.Common.{append_assoc}
use Rattle.xns_calls.specs.AtEnd.{both_ended, earliest, end_turn, ended_of, ended_times, first_at_end, first_in, one_ended, own_ended, read_behind}
use Rattle.xns_calls.specs.Capture.{Known, heading_at, scene_in}
use Rattle.xns_calls.specs.Events.{Event, acknowledged_event, after_events, brought_if, meanwhile}
use Rattle.xns_calls.specs.Exchange.{Scene, advance_other, advance_own, after_told, of_other, other_reached, reached, seen_from_other, told_of, up_to}
use Rattle.xns_calls.specs.Input.{FlowSaid, part_text, parts_text, said_texts, text_in, texts_in, told}
use Rattle.xns_calls.specs.Input.{Part}
use Rattle.xns_calls.specs.Queue.{last_kept_number}
use Rattle.xns_calls.specs.Read.{kept_item_count}
use Rattle.xns_calls.specs.Reading.{Told}
use Rattle.xns_calls.specs.Whole.{flow_text}
use Rattle.xns_calls.specs.declared.connection.Connection.{Connection}
use Rattle.xns_calls.specs.declared.early.Early.{Early}
use Rattle.xns_calls.specs.declared.first_kept.FirstKept.{FirstKept}
use Rattle.xns_calls.specs.declared.heading.Heading.{Heading}
use Rattle.xns_calls.specs.declared.origin.Origin.{Origin}
use Rattle.xns_calls.specs.declared.side.Side.{Side}
use Rattle.xns_calls.specs.declared.track.Track.{Track}
use Rattle.xns_calls.proofs.Adding.{own_adds}
use Rattle.xns_calls.proofs.AtLines.{AreAt, ack_at, both_at}
use Rattle.xns_calls.proofs.Known.{events_ordered}
use Rattle.xns_calls.proofs.Ordered.{IsOrdered}
use Rattle.xns_calls.proofs.Kept.{earliest_number}
use Rattle.xns_calls.proofs.LastKept.{AreAcks, AreBelow, acks_append, brought_if_below, first_upto, upto_below, upto_twice}
use Rattle.xns_calls.proofs.LessAtEnd.{both_left, other_left, own_left}
use Rattle.xns_calls.proofs.Onwards.{Leads, Rests, Says, TurnsRest, leads_nowhere, leads_on, other_turn_rests, own_turn_rests, rests_on, rests_so, says_on}
use Rattle.xns_calls.proofs.Packets.{own_event, own_other, reached_own}
use Rattle.xns_calls.proofs.Parts.{acknowledged_new, added, far_text, flow_append, flow_at, other_text, own_text}
use Rattle.xns_calls.proofs.Steps.{early_of}
use Rattle.xns_calls.proofs.Whole.{after_append}

-- ---- a flow that is brought to a number

pub moved_said : Origin → ℕ → Bool → Option ℕ → Scene → List FlowSaid
moved_said n m b o s = (own_adds (heading_at n m b) o s).said

one_text : (n : Origin) (m : ℕ) (b : Bool) (o : Option ℕ) (s : Scene)
    → (advance_own (heading_at n m b) o s).text ≡ s.text ++ parts_text (told n (flow_at m b) (moved_said n m b o s) ∷ [])
unfolding moved_said
one_text n m b o s =
    let x = own_adds (heading_at n m b) o s in
    x.is ∙ ap (λ z. s.text ++ z) (sym (append-nil (said_texts (heading_at n m b) x.said)))

said_new : (n : Origin) (m : ℕ) (b : Bool) (o : Option ℕ) (s : Scene)
    → drop (length s.text) (advance_own (heading_at n m b) o s).text ≡ said_texts (heading_at n m b) (moved_said n m b o s)
unfolding moved_said
said_new n m b o s = let h = heading_at n m b in added h s.text (advance_own h o s).text (own_adds h o s)

-- the flow behind is brought so, seen from it
reach_is : (h : Heading) (a : Option ℕ) (s : Scene) → other_reached h a s ≡ seen_from_other (advance_own (of_other h) (reached s.other.track a) (seen_from_other s))
unfolding other_reached
reach_is h a s = by_number (reached s.other.track a)
  where
    by_number : (o : Option ℕ) → advance_other h o s ≡ seen_from_other (advance_own (of_other h) o (seen_from_other s))
    by_number None = refl
    by_number (Some n) = refl

reach_back : (n : Origin) (m : ℕ) (b : Bool) (a : Option ℕ) (s : Scene)
    → seen_from_other (other_reached (heading_at n m (not b)) a (seen_from_other s)) ≡ advance_own (heading_at n m b) (reached s.own.track a) s
reach_back n m true a s = ap seen_from_other (reach_is (heading_at n m false) a (seen_from_other s))
reach_back n m false a s = ap seen_from_other (reach_is (heading_at n m true) a (seen_from_other s))

-- ---- for a flow that has begun, which is the scene's own

-- events that acknowledge what the flow keeps lead to the scene
pub record Ends (n : Origin) (m : ℕ) (b : Bool) (s s' : Scene) (t : Told) : Type 0 where
  pub events : List Event
  pub acks : (bound : ℕ) → AreBelow bound (early_of t) → AreAcks bound events × AreBelow bound (early_of (after_events events t))
  pub leads : Leads n m b s s' t events

stays : (n : Origin) (m : ℕ) (b : Bool) (s : Scene) (t : Told) → s.own.track ≡ Some t.track → t ≡ told_of t.track s → Ends n m b s s t
stays n m b s t track is = record { events = []; acks = λ bound below. (tt, below); leads = leads_nowhere n m b s t track is }

ends_on : (n : Origin) (m : ℕ) (b : Bool) (s s' s'' : Scene) (t : Told) → (w : Ends n m b s s' t) → Ends n m b s' s'' (after_events w.events t) → Ends n m b s s'' t
ends_on n m b s s' s'' t w v = record {
  events = w.events ++ v.events;
  acks = λ bound below. (
    acks_append bound w.events v.events (w.acks bound below).0 (v.acks bound (w.acks bound below).1).0,
    subst (λ (x : Told). AreBelow bound (early_of x)) (sym (after_append w.events v.events t)) (v.acks bound (w.acks bound below).1).1,
  );
  leads = leads_on n m b s s' s'' t w.events v.events w.leads v.leads;
}

moved_event : (h : Heading) (o : Option ℕ) (s : Scene) (track : Track) → s.own.track ≡ Some track → up_to (last_kept_number track.early) o ≡ o
    → advance_own h o s ≡ after_told (after_events (acknowledged_event h o) (told_of track s)) s
moved_event h None s track at upto = own_event h None s track at
moved_event h (Some n) s track at upto = own_event h (Some n) s track at ∙ ap (λ o. after_told (brought_if h o (told_of track s)) s) (sym upto)

moved_acks : (bound : ℕ) (h : Heading) (o : Option ℕ) (t : Told) → up_to (last_kept_number t.track.early) o ≡ o → AreBelow bound (early_of t)
    → AreAcks bound (acknowledged_event h o) × AreBelow bound (early_of (after_events (acknowledged_event h o) t))
moved_acks bound h None t upto below = (tt, below)
moved_acks bound h (Some n) t upto below =
    ((upto_below bound n t.track.early upto below, tt), brought_if_below bound h (up_to (last_kept_number t.track.early) (Some n)) t below)

-- the flow is brought to a number, at most the one behind the last item that it keeps
moves : (n : Origin) (m : ℕ) (b : Bool) (o : Option ℕ) (s : Scene) (t : Told) → s.own.track ≡ Some t.track → t ≡ told_of t.track s → up_to (last_kept_number t.track.early) o ≡ o
    → Ends n m b s (advance_own (heading_at n m b) o s) t
moves n m b o s t track is upto =
    let h = heading_at n m b in
    let events = acknowledged_event h o in
    let u = after_events events t in
    let said = moved_said n m b o s in
    let after : advance_own h o s ≡ after_told u s = moved_event h o s t.track track upto ∙ ap (λ (x : Told). after_told (after_events events x) s) (sym is) in record {
      events = events;
      acks = λ bound below. moved_acks bound h o t upto below;
      leads = record {
        at = ack_at h o;
        track = ap (λ (x : Scene). x.own.track) after;
        is = sym (ap (λ (x : Scene). told_of u.track x) after);
        parts = told n (flow_at m b) said ∷ [];
        text = one_text n m b o s;
        own = append-nil (text_in (flow_at m b) (told n (flow_at m b) said)) ∙ own_text n m b said ∙ sym (said_new n m b o s) ∙ ap (λ (x : Scene). drop (length s.text) x.text) after
            ∙ ap (λ (x : Told). drop (length x.text) u.text) (sym is) ∙ sym (acknowledged_new h o t);
      };
    }

-- the flow behind is brought to a number
others : (n : Origin) (m : ℕ) (b : Bool) (o : Option ℕ) (s : Scene) (t : Told) → s.own.track ≡ Some t.track
    → Ends n m b s (seen_from_other (advance_own (heading_at n m (not b)) o (seen_from_other s))) t
others n m b o s t track =
    let x = seen_from_other s in
    let y = advance_own (heading_at n m (not b)) o x in record {
      events = meanwhile (record { own = y.other.call; asked = y.own.call }) y.text y.is_refused ∷ [];
      acks = λ bound below. (tt, below);
      leads = record {
        at = tt;
        track = own_other (heading_at n m (not b)) o x ∙ track;
        is = refl;
        parts = told n (flow_at m (not b)) (moved_said n m (not b) o x) ∷ [];
        text = one_text n m (not b) o x;
        own = ap (λ z. z ++ []) (other_text n m b (moved_said n m (not b) o x));
      };
    }

-- the flow reads its first item, once the flow behind is brought to what has to be read before
own_reads : (n : Origin) (m : ℕ) (b : Bool) (s : Scene) (t : Told) → s.own.track ≡ Some t.track → t ≡ told_of t.track s → IsOrdered t → Ends n m b s (own_ended (heading_at n m b) s) t
unfolding own_ended
own_reads n m b s t track is ordered = subst (λ o. Ends n m b s (read_behind h (first_in o) s) t) (sym track) (by_early t.track.early refl)
  where
    h : Heading
    h = heading_at n m b

    by_early : (es : List Early) → t.track.early ≡ es → Ends n m b s (read_behind h (first_at_end es) s) t
    by_early [] at = stays n m b s t track is
    by_early (e ∷ rest) at =
        let start : FirstKept = record { number = e.number; acknowledged = e.item.acknowledged; line = e.item.line } in
        let first = earliest start (e ∷ rest) in
        let a = first.acknowledged in
        let number : first.number ≡ e.number = earliest_number start (e ∷ rest) in
        let s' = other_reached h a s in
        let w : Ends n m b s s' t = subst (λ x. Ends n m b s x t) (sym (reach_is h a s)) (others n m b (reached s.other.track a) s t track) in
        let u = after_events w.events t in
        let some : Some u.track ≡ Some t.track = sym w.leads.track ∙ reached_own h a s ∙ track in
        let same : u.track ≡ t.track = (cc) in
        let upto : up_to (last_kept_number t.track.early) (Some (first.number + 1)) ≡ Some (first.number + 1) =
        ap (λ k. up_to (last_kept_number t.track.early) (Some (k + 1))) number ∙ first_upto t e rest at ordered ∙ ap (λ k. Some (k + 1)) (sym number) in
        ends_on n m b s s' (advance_own h (Some (first.number + 1)) s') t w
        (moves n m b (Some (first.number + 1)) s' u w.leads.track w.leads.is (ap (λ (x : Track). up_to (last_kept_number x.early) (Some (first.number + 1))) same ∙ upto))

-- the flow behind reads its first item
behind_reads : (n : Origin) (m : ℕ) (b : Bool) (s : Scene) (t : Told) → s.own.track ≡ Some t.track → t ≡ told_of t.track s
    → Ends n m b s (seen_from_other (own_ended (heading_at n m (not b)) (seen_from_other s))) t
unfolding own_ended
behind_reads n m b s t track is = by_first (first_in s.other.track)
  where
    h : Heading
    h = heading_at n m (not b)

    x : Scene
    x = seen_from_other s

    by_first : (o : Option FirstKept) → Ends n m b s (seen_from_other (read_behind h o x)) t
    by_first None = stays n m b s t track is
    by_first (Some first) =
        let a = first.acknowledged in
        let y = seen_from_other (other_reached h a x) in
        let upto : up_to (last_kept_number t.track.early) (reached s.own.track a) ≡ reached s.own.track a =
        subst (λ o. up_to (last_kept_number t.track.early) (reached o a) ≡ reached o a) (sym track) (upto_twice (last_kept_number t.track.early) a) in
        let w : Ends n m b s y t = subst (λ z. Ends n m b s z t) (sym (reach_back n m b a s)) (moves n m b (reached s.own.track a) s t track is upto) in
        ends_on n m b s y (seen_from_other (advance_own h (Some (first.number + 1)) (other_reached h a x))) t w
        (others n m b (Some (first.number + 1)) y (after_events w.events t) w.leads.track)

own_turn : (n : Origin) (m : ℕ) (b : Bool) (o : Option Bool) (s : Scene) (t : Told) → s.own.track ≡ Some t.track → t ≡ told_of t.track s → IsOrdered t → Ends n m b s (ended_of (heading_at n m b) o s) t
own_turn n m b None s t track is ordered = stays n m b s t track is
own_turn n m b (Some false) s t track is ordered = own_reads n m b s t track is ordered
own_turn n m b (Some true) s t track is ordered = behind_reads n m b s t track is

other_turn : (n : Origin) (m : ℕ) (q : Bool) (o : Option Bool) (s : Scene) (t : Told) → s.other.track ≡ Some t.track → t ≡ told_of t.track (seen_from_other s) → IsOrdered t
    → Ends n m (not q) (seen_from_other s) (seen_from_other (ended_of (heading_at n m q) o s)) t
other_turn n m q None s t track is ordered = stays n m (not q) (seen_from_other s) t track is
other_turn n m true (Some false) s t track is ordered = behind_reads n m false (seen_from_other s) t track is
other_turn n m false (Some false) s t track is ordered = behind_reads n m true (seen_from_other s) t track is
other_turn n m q (Some true) s t track is ordered = own_reads n m (not q) (seen_from_other s) t track is ordered

own_times : (n : Origin) (m : ℕ) (b : Bool) (count : ℕ) (s : Scene) (t : Told) → s.own.track ≡ Some t.track → t ≡ told_of t.track s → IsOrdered t → Ends n m b s (ended_times count (heading_at n m b) s) t
own_times n m b zero s t track is ordered = stays n m b s t track is
own_times n m b (suc count) s t track is ordered =
    let h = heading_at n m b in
    let s' = one_ended h s in
    let w = own_turn n m b (end_turn s.own.track s.other.track) s t track is ordered in
    ends_on n m b s s' (ended_times count h s') t w (own_times n m b count s' (after_events w.events t) w.leads.track w.leads.is (events_ordered w.events t ordered))

other_times : (n : Origin) (m : ℕ) (q : Bool) (count : ℕ) (s : Scene) (t : Told) → s.other.track ≡ Some t.track → t ≡ told_of t.track (seen_from_other s) → IsOrdered t
    → Ends n m (not q) (seen_from_other s) (seen_from_other (ended_times count (heading_at n m q) s)) t
other_times n m q zero s t track is ordered = stays n m (not q) (seen_from_other s) t track is
other_times n m q (suc count) s t track is ordered =
    let h = heading_at n m q in
    let s' = one_ended h s in
    let w = other_turn n m q (end_turn s.own.track s.other.track) s t track is ordered in
    ends_on n m (not q) (seen_from_other s) (seen_from_other s') (seen_from_other (ended_times count h s')) t w
    (other_times n m q count s' (after_events w.events t) w.leads.track w.leads.is (events_ordered w.events t ordered))

pub own_ends : (n : Origin) (m : ℕ) (b : Bool) (s : Scene) (t : Told) → s.own.track ≡ Some t.track → t ≡ told_of t.track s → IsOrdered t → Ends n m b s (both_ended (heading_at n m b) s) t
unfolding both_ended
own_ends n m b s t track is ordered = own_times n m b (kept_item_count s.own.track + kept_item_count s.other.track) s t track is ordered

pub other_ends : (n : Origin) (m : ℕ) (q : Bool) (s : Scene) (t : Told) → s.other.track ≡ Some t.track → t ≡ told_of t.track (seen_from_other s) → IsOrdered t
    → Ends n m (not q) (seen_from_other s) (seen_from_other (both_ended (heading_at n m q) s)) t
unfolding both_ended
other_ends n m q s t track is ordered = other_times n m q (kept_item_count s.own.track + kept_item_count s.other.track) s t track is ordered

-- ---- for one of the two flows of a connection

abbrev side_of : Bool → Scene → Side
side_of true s = s.other
side_of false s = s.own

-- the scene of the flow that began the connection, seen from the flow
abbrev pub seen_by : Bool → Scene → Scene
seen_by b s = record s { own = side_of b s; other = side_of (not b) s }

pub scene_seen : (b : Bool) (c : Connection) (k : Known) → scene_in b c k ≡ seen_by b (scene_in false c k)
scene_seen true c k = refl
scene_seen false c k = refl

-- both flows of the connection, once all that they keep is read
abbrev pub ended_scene : Origin → Connection → Known → Scene
ended_scene n c k = both_ended (heading_at n c.number false) (scene_in false c k)

seen_ends : (n : Origin) (m : ℕ) (b : Bool) (s : Scene) (t : Told) → (seen_by b s).own.track ≡ Some t.track → t ≡ told_of t.track (seen_by b s) → IsOrdered t
    → Ends n m b (seen_by b s) (seen_by b (both_ended (heading_at n m false) s)) t
seen_ends n m true s t track is ordered = other_ends n m false s t track is ordered
seen_ends n m false s t track is ordered = own_ends n m false s t track is ordered

pub flow_ends : (n : Origin) (b : Bool) (c : Connection) (k : Known) (t : Told) → (scene_in b c k).own.track ≡ Some t.track → t ≡ told_of t.track (scene_in b c k) → IsOrdered t
    → Ends n c.number b (seen_by b (scene_in false c k)) (seen_by b (ended_scene n c k)) t
flow_ends n b c k t track is ordered =
    let same = scene_seen b c k in
    seen_ends n c.number b (scene_in false c k) t (ap (λ (x : Scene). x.own.track) (sym same) ∙ track) (is ∙ ap (λ (x : Scene). told_of t.track x) same) ordered

-- a flow keeps nothing more then
pub flow_left : (n : Origin) (b : Bool) (c : Connection) (k : Known) (track : Track) → (seen_by b (ended_scene n c k)).own.track ≡ Some track → track.early ≡ []
flow_left n true c k track at =
    let s = ended_scene n c k in other_left track s.own.track s.other.track at (both_left (heading_at n c.number false) (scene_in false c k))
flow_left n false c k track at =
    let s = ended_scene n c k in own_left track s.own.track s.other.track at (both_left (heading_at n c.number false) (scene_in false c k))

-- ---- for a flow that has not begun

own_rest : (n : Origin) (m : ℕ) (b : Bool) (s : Scene) → s.own.track ≡ None → Rests m b s (own_ended (heading_at n m b) s)
unfolding own_ended
own_rest n m b s none = subst (λ o. Rests m b s (read_behind (heading_at n m b) (first_in o) s)) (sym none) (rests_so m b s none)

behind_rest : (n : Origin) (m : ℕ) (b : Bool) (s : Scene) → s.own.track ≡ None → Rests m b s (seen_from_other (own_ended (heading_at n m (not b)) (seen_from_other s)))
unfolding own_ended
behind_rest n m b s none = by_first (first_in s.other.track)
  where
    h : Heading
    h = heading_at n m (not b)

    x : Scene
    x = seen_from_other s

    by_first : (o : Option FirstKept) → Rests m b s (seen_from_other (read_behind h o x))
    by_first None = rests_so m b s none
    by_first (Some first) =
        let a = first.acknowledged in
        let o : Option ℕ = Some (first.number + 1) in
        let same : seen_from_other (other_reached h a x) ≡ s = reach_back n m b a s ∙ ap (λ t. advance_own (heading_at n m b) (reached t a) s) none in
        let back : other_reached h a x ≡ x = ap seen_from_other same in
        subst (λ z. Rests m b s (seen_from_other (advance_own h o z))) (sym back)
        (record {
          track = own_other h o x ∙ none;
          parts = told n (flow_at m (not b)) (moved_said n m (not b) o x) ∷ [];
          text = one_text n m (not b) o x;
          own = ap (λ z. z ++ []) (other_text n m b (moved_said n m (not b) o x));
        })

ends_rest : (n : Origin) (m : ℕ) → TurnsRest n m ended_of
ends_rest n m = record { none = λ h s. refl; behind_is = λ h s. refl; own = own_rest n m; behind = behind_rest n m }

own_times_rest : (n : Origin) (m : ℕ) (b : Bool) (count : ℕ) (s : Scene) → s.own.track ≡ None → Rests m b s (ended_times count (heading_at n m b) s)
own_times_rest n m b zero s none = rests_so m b s none
own_times_rest n m b (suc count) s none =
    let h = heading_at n m b in
    let s' = one_ended h s in
    let w = own_turn_rests n m ended_of (ends_rest n m) b (end_turn s.own.track s.other.track) s none in
    rests_on m b s s' (ended_times count h s') w (own_times_rest n m b count s' w.track)

other_times_rest : (n : Origin) (m : ℕ) (q : Bool) (count : ℕ) (s : Scene) → s.other.track ≡ None → Rests m (not q) (seen_from_other s) (seen_from_other (ended_times count (heading_at n m q) s))
other_times_rest n m q zero s none = rests_so m (not q) (seen_from_other s) none
other_times_rest n m q (suc count) s none =
    let h = heading_at n m q in
    let s' = one_ended h s in
    let w = other_turn_rests n m ended_of (ends_rest n m) q (end_turn s.own.track s.other.track) s none in
    rests_on m (not q) (seen_from_other s) (seen_from_other s') (seen_from_other (ended_times count h s')) w (other_times_rest n m q count s' w.track)

pub own_ends_rest : (n : Origin) (m : ℕ) (b : Bool) (s : Scene) → s.own.track ≡ None → Rests m b s (both_ended (heading_at n m b) s)
unfolding both_ended
own_ends_rest n m b s none = own_times_rest n m b (kept_item_count s.own.track + kept_item_count s.other.track) s none

pub other_ends_rest : (n : Origin) (m : ℕ) (q : Bool) (s : Scene) → s.other.track ≡ None → Rests m (not q) (seen_from_other s) (seen_from_other (both_ended (heading_at n m q) s))
unfolding both_ended
other_ends_rest n m q s none = other_times_rest n m q (kept_item_count s.own.track + kept_item_count s.other.track) s none

-- ---- for the flows of other connections

says_move : (n : Origin) (m : ℕ) (q : Bool) (o : Option ℕ) (s : Scene) → Says m s (advance_own (heading_at n m q) o s)
says_move n m q o s = record {
  parts = told n (flow_at m q) (moved_said n m q o s) ∷ [];
  text = one_text n m q o s;
  far = λ m' b' e. ap (λ z. z ++ []) (far_text n m' m b' q (moved_said n m q o s) e);
}

-- which of the two flows a scene is seen from is nothing to its text
says_seen : (m : ℕ) (s s' : Scene) → Says m (seen_from_other s) s' → Says m s (seen_from_other s')
says_seen m s s' w = record { parts = w.parts; text = w.text; far = w.far }

says_own : (n : Origin) (m : ℕ) (q : Bool) (s : Scene) → Says m s (own_ended (heading_at n m q) s)
unfolding own_ended
says_own n m q s = by_first (first_in s.own.track)
  where
    h : Heading
    h = heading_at n m q

    by_first : (o : Option FirstKept) → Says m s (read_behind h o s)
    by_first None = record { parts = []; text = sym (append-nil s.text); far = λ m' b' e. refl }
    by_first (Some first) =
        let s' = other_reached h first.acknowledged s in
        let number = reached s.other.track first.acknowledged in
        says_on m s s' (advance_own h (Some (first.number + 1)) s')
        (subst (Says m s) (sym (reach_is h first.acknowledged s)) (says_seen m s (advance_own (of_other h) number (seen_from_other s)) (says_move n m (not q) number (seen_from_other s))))
        (says_move n m q (Some (first.number + 1)) s')

says_turn : (n : Origin) (m : ℕ) (q : Bool) (o : Option Bool) (s : Scene) → Says m s (ended_of (heading_at n m q) o s)
says_turn n m q None s = record { parts = []; text = sym (append-nil s.text); far = λ m' b' e. refl }
says_turn n m q (Some false) s = says_own n m q s
says_turn n m q (Some true) s = says_seen m s (own_ended (heading_at n m (not q)) (seen_from_other s)) (says_own n m (not q) (seen_from_other s))

says_times : (n : Origin) (m : ℕ) (q : Bool) (count : ℕ) (s : Scene) → Says m s (ended_times count (heading_at n m q) s)
says_times n m q zero s = record { parts = []; text = sym (append-nil s.text); far = λ m' b' e. refl }
says_times n m q (suc count) s =
    let h = heading_at n m q in
    let s' = one_ended h s in
    says_on m s s' (ended_times count h s') (says_turn n m q (end_turn s.own.track s.other.track) s) (says_times n m q count s')

pub ends_say : (n : Origin) (m : ℕ) (q : Bool) (s : Scene) → Says m s (both_ended (heading_at n m q) s)
unfolding both_ended
ends_say n m q s = says_times n m q (kept_item_count s.own.track + kept_item_count s.other.track) s
