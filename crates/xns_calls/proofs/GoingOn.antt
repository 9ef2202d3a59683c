-- No packet takes a flow back: the number of its next item never goes down, and what it keeps stays in order.
use Rattle.std.proofs.Common.{◌≡◌, ◌∙◌, ap, sym, refl, subst, arith, ℕ, ◌+◌, ◌-◌, ◌≤◌, Bool, true, false, cond, List, [], ◌∷◌, Option, Some, None}
use Rattle.std.specs.Prelude.{max}
use Rattle.std.proofs.lemmas.Bool.{cond_both}
use Rattle.xns_idp.specs.Packet.{PacketModel}
use Rattle.xns_spp.specs.Header.{is_system}
use Rattle.xns_spp.specs.declared.header.Header.{Header}
use Rattle.xns_dump.specs.declared.flows.flow.Flow.{Flow}
use Rattle.xns_calls.specs.Acknowledged.{due_in}
use Rattle.xns_calls.specs.Capture.{heading_at, new_connection, repeats_told, scene_in}
use Rattle.xns_calls.specs.Events.{Event, acknowledged, acknowledged_event, after_event, after_events, brought_if, captured, captured_event, meanwhile, own_events, read}
use Rattle.xns_calls.specs.Exchange.{Scene, advance_own, after_content, after_data, after_packet, after_told, begin_track, carried, first_track, is_repeat, of_other, other_reached, own_reached, reached, seen_from_other, told_of, up_to}
use Rattle.xns_calls.specs.Held.{AreHandled, Handled, IsHandled, handled_in, with_all, with_handled}
use Rattle.xns_calls.specs.Numbers.{most_early, near}
use Rattle.xns_calls.specs.Over.{side_in}
use Rattle.xns_calls.specs.Queue.{last_kept_number}
use Rattle.xns_calls.specs.Read.{handled, settled}
use Rattle.xns_calls.specs.Reading.{Told, brought, item_read, passed}
use Rattle.xns_calls.specs.declared.connection.Connection.{Connection}
use Rattle.xns_calls.specs.declared.due.Due.{Due}
use Rattle.xns_calls.specs.declared.early.Early.{Early}
use Rattle.xns_calls.specs.declared.heading.Heading.{Heading}
use Rattle.xns_calls.specs.declared.origin.Origin.{Origin}
use Rattle.xns_calls.specs.declared.track.Track.{Track}
use Rattle.xns_calls.proofs.Known.{events_ordered, event_ordered, new_ordered, with_item}
use Rattle.xns_calls.proofs.Onwards.{other_settled, other_settles, own_settled, own_settles}
use Rattle.xns_calls.proofs.Ordered.{AreFrom, Bears, IsOrdered, brought_bears, first_bears, item_next, next_of, passed_next}
use Rattle.xns_calls.proofs.Packets.{number_event, own_reached_event, packet_events, packet_other, reached_event, reached_own}
use Rattle.xns_calls.proofs.Parts.{plain}
use Rattle.xns_calls.proofs.Steps.{with_early}
use Rattle.xns_calls.proofs.Unbegun.{data_new, first_early, reached_same}

-- ---- events

abbrev IsPast : ℕ → Told → Type 0
IsPast least t = least ≤ next_of t

past_read : (least : ℕ) (h : Heading) (e : Early) (rest : List Early) (t : Told) → next_of t ≤ e.number → IsPast least t → IsPast least (item_read h e (with_early rest t))
past_read least h e rest t le past =
    let next : next_of (item_read h e (with_early rest t)) ≡ e.number + 1 = item_next h e (with_early rest t) in
    let old : least ≤ next_of t = past in omega (arith, next, le, old)

past_passed : (least : ℕ) (h : Heading) (n : ℕ) (t : Told) → IsPast least t → IsPast least (passed h n t)
past_passed least h n t past =
    let next : next_of (passed h n t) ≡ max (next_of t) n = passed_next h n t in
    let old : least ≤ next_of t = past in omega (arith, next, old)

past_bears : (least : ℕ) (h : Heading) (n : ℕ) → Bears (IsPast least) h n
past_bears least h n = record { reads = λ e rest t same le due past. past_read least h e rest t le past; passes = λ t past. past_passed least h n t past }

past_brought : (least : ℕ) (h : Heading) (n : ℕ) (t : Told) → IsOrdered t → IsPast least t → IsPast least (brought h n t)
past_brought least h n t ordered past = brought_bears (IsPast least) h n t (past_bears least h n) ordered past

past_if : (least : ℕ) (h : Heading) (o : Option ℕ) (t : Told) → IsOrdered t → IsPast least t → IsPast least (brought_if h o t)
past_if least h None t ordered past = past
past_if least h (Some n) t ordered past = past_brought least h n t ordered past

event_past : (least : ℕ) (e : Event) (t : Told) → IsOrdered t → IsPast least t → IsPast least (after_event e t)
event_past least (captured h k item) t ordered past =
    cond_both (is_repeat k t.track) t (with_item k item (brought h (k - most_early) t)) (IsPast least) (λ old. past)
    (λ new. past_brought least h (k - most_early) t ordered past)
event_past least (acknowledged h n) t ordered past = past_if least h (up_to (last_kept_number t.track.early) (Some n)) t ordered past
event_past least (read h) t ordered past = first_bears (IsPast least) h (λ e rest u same le now. past_read least h e rest u le now) t ordered past
event_past least (meanwhile calls text is_refused) t ordered past = past

events_past : (least : ℕ) (events : List Event) (t : Told) → IsOrdered t → IsPast least t → IsPast least (after_events events t)
events_past least [] t ordered past = past
events_past least (e ∷ more) t ordered past = events_past least more (after_event e t) (event_ordered e t ordered) (event_past least e t ordered past)

-- ---- a flow

-- a flow that has begun stays so, its next item is none before the one that was next, and what it keeps is in order
abbrev pub GoesOn : Option Track → Option Track → Type 0
GoesOn None None = Unit {0}
GoesOn None (Some new) = AreFrom new.next new.early
GoesOn (Some old) None = ⊥
GoesOn (Some old) (Some new) = (old.next ≤ new.next) × AreFrom new.next new.early

pub goes_order : (old new : Option Track) → GoesOn old new → GoesOn None new
goes_order None new on = on
goes_order (Some old) None on = absurd on
goes_order (Some old) (Some new) on = on.1

stays_on : (o : Option Track) → GoesOn None o → GoesOn o o
stays_on None order = tt
stays_on (Some track) order = (omega arith, order)

goes_further : (a b c : Option Track) → GoesOn a b → GoesOn b c → GoesOn a c
goes_further None b c on on' = goes_order b c on'
goes_further (Some a) None c on on' = absurd on
goes_further (Some a) (Some b) None on on' = absurd on'
goes_further (Some a) (Some b) (Some c) on on' =
    let one : a.next ≤ b.next = on.0 in
    let two : b.next ≤ c.next = on'.0 in (omega (arith, one, two), on'.1)

events_go : (least : ℕ) (events : List Event) (t : Told) → IsOrdered t → IsPast least t → (least ≤ (after_events events t).track.next) × AreFrom (after_events events t).track.next (after_events events t).track.early
events_go least events t ordered past = (events_past least events t ordered past, events_ordered events t ordered)

-- ---- the flow of a packet

-- what a flow has come to is what it was brought to, and then what was read of it
pub record Runs (t : Told) (o : Option Track) : Type 0 where
  pub later : List Event
  pub are : plain later ≡ []
  pub is : o ≡ Some (after_events later t).track

abbrev pub own_told : Heading → Due → Header → List ℕ → Scene → Track → Told
own_told h due f content s track = after_events (own_events h due f content track (other_reached h due.other s)) (told_of track s)

pub own_runs : (n : Origin) (m : ℕ) (b : Bool) (due : Due) (packet : PacketModel) (f : Header) (content : List ℕ) (s : Scene) (track : Track) → s.own.track ≡ Some track
    → Runs (own_told (heading_at n m b) due f content s track) (handled (heading_at n m b) due packet f content s).own.track
own_runs n m b due packet f content s track at =
    let h = heading_at n m b in
    let u = own_told h due f content s track in
    let ran = own_settled n m b due.given (after_told u (other_reached h due.other s)) u refl refl in record {
      later = ran.events;
      are = ran.are;
      is = ap (λ (x : Scene). (settled h due.given x).own.track) (packet_events h due packet f content s track at) ∙ ran.leads.track;
    }

own_begun : (n : Origin) (m : ℕ) (b : Bool) (due : Due) (packet : PacketModel) (f : Header) (content : List ℕ) (s : Scene) (track : Track) → s.own.track ≡ Some track → AreFrom track.next track.early
    → GoesOn (Some track) (handled (heading_at n m b) due packet f content s).own.track
own_begun n m b due packet f content s track at order =
    let h = heading_at n m b in
    let events = own_events h due f content track (other_reached h due.other s) in
    let t = told_of track s in
    let ran = own_runs n m b due packet f content s track at in
    subst (GoesOn (Some track)) (sym ran.is) (events_go track.next ran.later (after_events events t) (events_ordered events t order) (events_past track.next events t order (omega arith)))

-- where nothing has begun, nothing takes effect
none_reached : (h : Heading) (number : Option ℕ) (s : Scene) → s.own.track ≡ None → own_reached h number s ≡ s
unfolding own_reached
none_reached h number s none = ap (λ o. advance_own h (reached o number) s) none

system_packet : (h : Heading) (due : Due) (packet : PacketModel) (f : Header) (content : List ℕ) (s : Scene) → s.own.track ≡ None → is_system f ≡ true → after_packet h due packet f content s ≡ other_reached h due.other s
unfolding after_packet after_content
system_packet h due packet f content s none e =
    let known = other_reached h due.other s in
    ap (λ p. own_reached h due.own (cond p known (after_data h due.acknowledged packet f content known))) e ∙ none_reached h due.own known (reached_own h due.other s ∙ none)

pub system_still : (n : Origin) (m : ℕ) (b : Bool) (due : Due) (packet : PacketModel) (f : Header) (content : List ℕ) (s : Scene) → s.own.track ≡ None → is_system f ≡ true
    → (handled (heading_at n m b) due packet f content s).own.track ≡ None
system_still n m b due packet f content s none e =
    let h = heading_at n m b in
    let new = after_packet h due packet f content s in
    let still : new.own.track ≡ None = ap (λ (x : Scene). x.own.track) (system_packet h due packet f content s none e) ∙ reached_own h due.other s ∙ none in
    (own_settles n m b due.given new still).track

-- a flow begins with its first data packet
pub begin_scene : Heading → Due → PacketModel → Header → Scene → Scene
begin_scene h due packet f s = begin_track h packet f None (other_reached h due.other s)

unfoldable pub begin_told : Heading → Due → PacketModel → Header → List ℕ → Scene → Told
unfolding begin_scene
begin_told h due packet f content s =
    let first = first_track f.sequence in
    after_events (captured_event h (near first.next f.sequence) (carried h due.acknowledged f content)) (told_of first (begin_scene h due packet f s))

data_packet : (h : Heading) (due : Due) (packet : PacketModel) (f : Header) (content : List ℕ) (s : Scene) → s.own.track ≡ None → is_system f ≡ false
    → after_packet h due packet f content s
    ≡ after_told (after_events (acknowledged_event h due.own) (begin_told h due packet f content s)) (after_told (begin_told h due packet f content s) (begin_scene h due packet f s))
unfolding after_packet after_content begin_told begin_scene
data_packet h due packet f content s none e =
    let known = other_reached h due.other s in
    let begun = begin_scene h due packet f s in
    let u = begin_told h due packet f content s in
    let first = first_track f.sequence in
    ap (λ p. own_reached h due.own (cond p known (after_data h due.acknowledged packet f content known))) e
    ∙ ap (own_reached h due.own) (data_new h due.acknowledged packet f content known (reached_own h due.other s ∙ none))
    ∙ ap (own_reached h due.own) (number_event h f (carried h due.acknowledged f content) begun first (near first.next f.sequence) refl refl)
    ∙ own_reached_event h due.own (after_told u begun) u.track refl

pub told_ordered : (h : Heading) (due : Due) (packet : PacketModel) (f : Header) (content : List ℕ) (s : Scene) → IsOrdered (begin_told h due packet f content s)
unfolding begin_told
told_ordered h due packet f content s =
    let first = first_track f.sequence in
    let t = told_of first (begin_scene h due packet f s) in
    events_ordered (captured_event h (near first.next f.sequence) (carried h due.acknowledged f content)) t (new_ordered t (first_early f.sequence))

pub new_runs : (n : Origin) (m : ℕ) (b : Bool) (due : Due) (packet : PacketModel) (f : Header) (content : List ℕ) (s : Scene) → s.own.track ≡ None → is_system f ≡ false
    → Runs (after_events (acknowledged_event (heading_at n m b) due.own) (begin_told (heading_at n m b) due packet f content s)) (handled (heading_at n m b) due packet f content s).own.track
new_runs n m b due packet f content s none e =
    let h = heading_at n m b in
    let u = begin_told h due packet f content s in
    let v = after_events (acknowledged_event h due.own) u in
    let ran = own_settled n m b due.given (after_told v (after_told u (begin_scene h due packet f s))) v refl refl in record {
      later = ran.events;
      are = ran.are;
      is = ap (λ (x : Scene). (settled h due.given x).own.track) (data_packet h due packet f content s none e) ∙ ran.leads.track;
    }

own_new : (n : Origin) (m : ℕ) (b : Bool) (due : Due) (packet : PacketModel) (f : Header) (content : List ℕ) (s : Scene) → s.own.track ≡ None
    → GoesOn None (handled (heading_at n m b) due packet f content s).own.track
own_new n m b due packet f content s none = by_system (is_system f) refl
  where
    by_system : (p : Bool) → is_system f ≡ p → GoesOn None (handled (heading_at n m b) due packet f content s).own.track
    by_system true e = subst (GoesOn None) (sym (system_still n m b due packet f content s none e)) tt
    by_system false e =
        let h = heading_at n m b in
        let acks = acknowledged_event h due.own in
        let u = begin_told h due packet f content s in
        let ran = new_runs n m b due packet f content s none e in
        subst (GoesOn None) (sym ran.is) (events_ordered ran.later (after_events acks u) (events_ordered acks u (told_ordered h due packet f content s)))

own_goes : (n : Origin) (m : ℕ) (b : Bool) (due : Due) (packet : PacketModel) (f : Header) (content : List ℕ) (s : Scene) → GoesOn None s.own.track
    → GoesOn s.own.track (handled (heading_at n m b) due packet f content s).own.track
own_goes n m b due packet f content s = by_track s.own.track refl
  where
    by_track : (o : Option Track) → s.own.track ≡ o → GoesOn None o → GoesOn o (handled (heading_at n m b) due packet f content s).own.track
    by_track None at order = own_new n m b due packet f content s at
    by_track (Some track) at order = own_begun n m b due packet f content s track at order

-- ---- the flow behind that of a packet

abbrev pub behind_told : Heading → Due → PacketModel → Header → List ℕ → Scene → Track → Told
behind_told h due packet f content s track =
    told_of (after_events (acknowledged_event (of_other h) due.other) (told_of track (seen_from_other s))).track (seen_from_other (after_packet h due packet f content s))

pub behind_runs : (n : Origin) (m : ℕ) (q : Bool) (due : Due) (packet : PacketModel) (f : Header) (content : List ℕ) (s : Scene) (track : Track) → s.other.track ≡ Some track
    → Runs (behind_told (heading_at n m q) due packet f content s track) (handled (heading_at n m q) due packet f content s).other.track
behind_runs n m q due packet f content s track at =
    let h = heading_at n m q in
    let new = after_packet h due packet f content s in
    let v = behind_told h due packet f content s track in
    let is : new.other.track ≡ Some v.track = packet_other h due packet f content s ∙ ap (λ (x : Scene). x.other.track) (reached_event h due.other s track at) in
    let ran = other_settled n m q due.given new v is refl in record { later = ran.events; are = ran.are; is = ran.leads.track }

behind_begun : (n : Origin) (m : ℕ) (q : Bool) (due : Due) (packet : PacketModel) (f : Header) (content : List ℕ) (s : Scene) (track : Track) → s.other.track ≡ Some track → AreFrom track.next track.early
    → GoesOn (Some track) (handled (heading_at n m q) due packet f content s).other.track
behind_begun n m q due packet f content s track at order =
    let h = heading_at n m q in
    let acks = acknowledged_event (of_other h) due.other in
    let t = told_of track (seen_from_other s) in
    let ran = behind_runs n m q due packet f content s track at in
    subst (GoesOn (Some track)) (sym ran.is)
    (events_go track.next ran.later (behind_told h due packet f content s track) (events_ordered acks t order) (events_past track.next acks t order (omega arith)))

pub behind_still : (n : Origin) (m : ℕ) (q : Bool) (due : Due) (packet : PacketModel) (f : Header) (content : List ℕ) (s : Scene) → s.other.track ≡ None
    → (handled (heading_at n m q) due packet f content s).other.track ≡ None
behind_still n m q due packet f content s none =
    let h = heading_at n m q in
    let new = after_packet h due packet f content s in
    let still : new.other.track ≡ None = packet_other h due packet f content s ∙ ap (λ (x : Scene). x.other.track) (reached_same h due.other s none) ∙ none in
    (other_settles n m q due.given new still).track

behind_goes : (n : Origin) (m : ℕ) (q : Bool) (due : Due) (packet : PacketModel) (f : Header) (content : List ℕ) (s : Scene) → GoesOn None s.other.track
    → GoesOn s.other.track (handled (heading_at n m q) due packet f content s).other.track
behind_goes n m q due packet f content s = by_track s.other.track refl
  where
    by_track : (o : Option Track) → s.other.track ≡ o → GoesOn None o → GoesOn o (handled (heading_at n m q) due packet f content s).other.track
    by_track None at order = subst (GoesOn None) (sym (behind_still n m q due packet f content s at)) tt
    by_track (Some track) at order = behind_begun n m q due packet f content s track at order

-- ---- the packets of a connection

pub one_goes : (d : Bool) (packet : Handled) (c : Connection) → IsHandled packet c → GoesOn None (side_in d c).track → GoesOn (side_in d c).track (side_in d (with_handled packet c)).track
one_goes d packet c w order = subst (λ x. GoesOn (side_in d c).track (side_in d (with_handled x c)).track) (sym w.is) (by_flow d packet.is_behind order)
  where
    by_flow : (d q : Bool) → GoesOn None (side_in d c).track
        → GoesOn (side_in d c).track (side_in d (with_handled (handled_in packet.origin q packet.sent packet.header packet.content c w.known) c)).track
    by_flow true true order = own_goes packet.origin c.number true (due_in true packet.header c) packet.sent packet.header packet.content (scene_in true c (repeats_told packet.origin true packet.header c w.known)) order
    by_flow false false order = own_goes packet.origin c.number false (due_in false packet.header c) packet.sent packet.header packet.content (scene_in false c (repeats_told packet.origin false packet.header c w.known)) order
    by_flow true false order = behind_goes packet.origin c.number false (due_in false packet.header c) packet.sent packet.header packet.content (scene_in false c (repeats_told packet.origin false packet.header c w.known)) order
    by_flow false true order = behind_goes packet.origin c.number true (due_in true packet.header c) packet.sent packet.header packet.content (scene_in true c (repeats_told packet.origin true packet.header c w.known)) order

pub all_go : (d : Bool) (packets : List Handled) (c : Connection) → AreHandled packets c → GoesOn None (side_in d c).track → GoesOn (side_in d c).track (side_in d (with_all packets c)).track
all_go d [] c are order = stays_on (side_in d c).track order
all_go d (packet ∷ more) c are order =
    let c' = with_handled packet c in
    let one = one_goes d packet c are.0 order in
    goes_further (side_in d c).track (side_in d c').track (side_in d (with_all more c')).track one (all_go d more c' are.1 (goes_order (side_in d c).track (side_in d c').track one))

pub new_order : (d : Bool) (number : ℕ) (flow : Flow) → GoesOn None (side_in d (new_connection number flow)).track
new_order true number flow = tt
new_order false number flow = tt
