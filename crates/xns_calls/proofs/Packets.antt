-- What a packet does to a flow are its events.
use Rattle.std.proofs.Common.{◌≡◌, ◌∙◌, ap, sym, refl, ℕ, ◌%◌, ◌+◌, ◌<◌, ◌≤◌, Bool, true, false, cond, List, [], Option, Some, None}
use Rattle.std.proofs.lemmas.Bool.{le-ltb}
use Rattle.xns_idp.specs.Packet.{PacketModel}
use Rattle.xns_spp.specs.Header.{is_system}
use Rattle.xns_spp.specs.Laws.{NearestNumberIsReadBack}
use Rattle.xns_spp.specs.Nearest.{field_round, half_round, nearest}
use Rattle.xns_spp.specs.Numbers.{most_items}
use Rattle.xns_spp.specs.declared.header.Header.{Header}
use Rattle.xns_calls.specs.declared.carried.Carried.{Carried}
use Rattle.xns_calls.specs.declared.due.Due.{Due}
use Rattle.xns_calls.specs.declared.heading.Heading.{Heading}
use Rattle.xns_calls.specs.declared.track.Track.{Track}
use Rattle.xns_calls.specs.Events.{acknowledged_event, after_events, brought_if, captured_event, own_events}
use Rattle.xns_calls.specs.Exchange.{Scene, advance_other, advance_own, after_content, after_data, after_new, after_number, after_packet, after_told, begin_track, begun, carried, in_flow, in_track, new_number, of_other, other_reached, own_reached, reached, seen_from_other, take_number, told_of, unless_repeat, up_to}
use Rattle.xns_calls.specs.Numbers.{near}
use Rattle.xns_calls.specs.Queue.{last_kept_number}
use Rattle.xns_calls.specs.Read.{own_read}
use Rattle.xns_calls.specs.Reading.{Told, brought, first_read, item_taken}
use Rattle.xns_calls.proofs.Whole.{after_append}
use Rattle.xns_calls.proofs.ItemEvents.{item_event}

-- a flow that is put back as it was
pub put_back : (s : Scene) (track : Track) → s.own.track ≡ Some track → after_told (told_of track s) s ≡ s
put_back s track e = ap (λ (o : Option Track). record s { own = record s.own { track = o } }) (sym e)

-- what is read of a flow that has begun
flow_begun : (reads : Told → Told) (s : Scene) (track : Track) → s.own.track ≡ Some track → in_flow reads s ≡ after_told (reads (told_of track s)) s
unfolding in_flow
flow_begun reads s track e = ap (λ o. in_track reads o s) e

-- ---- what the flow behind keeps of a packet

pub flow_other : (reads : Told → Told) (s : Scene) → (in_flow reads s).other.track ≡ s.other.track
unfolding in_flow
flow_other reads s = by_track s.own.track
  where
    by_track : (o : Option Track) → (in_track reads o s).other.track ≡ s.other.track
    by_track None = refl
    by_track (Some track) = refl

pub own_other : (h : Heading) (o : Option ℕ) (s : Scene) → (advance_own h o s).other.track ≡ s.other.track
own_other h None s = refl
own_other h (Some n) s = flow_other (brought h n) s

number_other : (h : Heading) (o : Option ℕ) (item : Carried) (s : Scene) → (after_number h o item s).other.track ≡ s.other.track
unfolding after_new
number_other h None item s = refl
number_other h (Some n) item s = flow_other (item_taken h n item) s

begin_other : (h : Heading) (packet : PacketModel) (f : Header) (o : Option Track) (s : Scene) → (begin_track h packet f o s).other.track ≡ s.other.track
begin_other h packet f None s = refl
begin_other h packet f (Some track) s = refl

data_other : (h : Heading) (a : Option ℕ) (packet : PacketModel) (f : Header) (content : List ℕ) (s : Scene) → (after_data h a packet f content s).other.track ≡ s.other.track
unfolding after_data begun
data_other h a packet f content s =
    number_other h (new_number (begun h packet f s).own.track f.sequence) (carried h a f content) (begun h packet f s) ∙ begin_other h packet f s.own.track s

pub content_other : (h : Heading) (a : Option ℕ) (packet : PacketModel) (f : Header) (content : List ℕ) (s : Scene) → (after_content h a packet f content s).other.track ≡ s.other.track
unfolding after_content
content_other h a packet f content s = over (is_system f)
  where
    over : (p : Bool) → (cond p s (after_data h a packet f content s)).other.track ≡ s.other.track
    over true = refl
    over false = data_other h a packet f content s

reached_other : (h : Heading) (number : Option ℕ) (s : Scene) → (own_reached h number s).other.track ≡ s.other.track
unfolding own_reached
reached_other h number s = own_other h (reached s.own.track number) s

pub packet_other : (h : Heading) (due : Due) (packet : PacketModel) (f : Header) (content : List ℕ) (s : Scene) → (after_packet h due packet f content s).other.track ≡ (other_reached h due.other s).other.track
unfolding after_packet
packet_other h due packet f content s =
    let known = other_reached h due.other s in
    reached_other h due.own (after_content h due.acknowledged packet f content known) ∙ content_other h due.acknowledged packet f content known

-- ---- what takes effect with a packet

advance_event : (h : Heading) (o : Option ℕ) (s : Scene) (track : Track) → s.other.track ≡ Some track
    → advance_other h o s ≡ seen_from_other (after_told (brought_if (of_other h) o (told_of track (seen_from_other s))) (seen_from_other s))
advance_event h None s track e = ap seen_from_other (sym (put_back (seen_from_other s) track e))
advance_event h (Some n) s track e = ap seen_from_other (flow_begun (brought (of_other h) n) (seen_from_other s) track e)

pub up_to_none : (l : Option ℕ) → up_to l None ≡ None
up_to_none None = refl
up_to_none (Some last) = refl

pub reached_event : (h : Heading) (number : Option ℕ) (s : Scene) (track : Track) → s.other.track ≡ Some track
    → other_reached h number s
    ≡ seen_from_other (after_told (after_events (acknowledged_event (of_other h) number) (told_of track (seen_from_other s))) (seen_from_other s))
unfolding other_reached
reached_event h number s track e = ap (λ o. advance_other h (reached o number) s) e ∙ of_number number
  where
    of_number : (o : Option ℕ) → advance_other h (up_to (last_kept_number track.early) o) s
        ≡ seen_from_other (after_told (after_events (acknowledged_event (of_other h) o) (told_of track (seen_from_other s))) (seen_from_other s))
    of_number None = ap (λ o. advance_other h o s) (up_to_none (last_kept_number track.early)) ∙ advance_event h None s track e
    of_number (Some n) = advance_event h (up_to (last_kept_number track.early) (Some n)) s track e

pub own_event : (h : Heading) (o : Option ℕ) (s : Scene) (track : Track) → s.own.track ≡ Some track → advance_own h o s ≡ after_told (brought_if h o (told_of track s)) s
own_event h None s track e = sym (put_back s track e)
own_event h (Some n) s track e = flow_begun (brought h n) s track e

pub own_reached_event : (h : Heading) (number : Option ℕ) (s : Scene) (track : Track) → s.own.track ≡ Some track
    → own_reached h number s ≡ after_told (after_events (acknowledged_event h number) (told_of track s)) s
unfolding own_reached
own_reached_event h number s track e = ap (λ o. advance_own h (reached o number) s) e ∙ of_number number
  where
    of_number : (o : Option ℕ) → advance_own h (up_to (last_kept_number track.early) o) s ≡ after_told (after_events (acknowledged_event h o) (told_of track s)) s
    of_number None = ap (λ o. advance_own h o s) (up_to_none (last_kept_number track.early)) ∙ own_event h None s track e
    of_number (Some n) = own_event h (up_to (last_kept_number track.early) (Some n)) s track e

-- where nothing does, both flows stay
none_reached : (o : Option Track) → reached o None ≡ None
none_reached None = refl
none_reached (Some track) = up_to_none (last_kept_number track.early)

pub none_own : (h : Heading) (s : Scene) → own_reached h None s ≡ s
unfolding own_reached
none_own h s = ap (λ o. advance_own h o s) (none_reached s.own.track)

pub none_other : (h : Heading) (s : Scene) → other_reached h None s ≡ s
unfolding other_reached
none_other h s = ap (λ o. advance_other h o s) (none_reached s.other.track)

-- ---- the item of a packet

other_own : (h : Heading) (o : Option ℕ) (s : Scene) → (advance_other h o s).own.track ≡ s.own.track
other_own h None s = refl
other_own h (Some n) s = flow_other (brought (of_other h) n) (seen_from_other s)

pub reached_own : (h : Heading) (number : Option ℕ) (s : Scene) → (other_reached h number s).own.track ≡ s.own.track
unfolding other_reached
reached_own h number s = other_own h (reached s.other.track number) s

pub number_event : (h : Heading) (f : Header) (item : Carried) (s : Scene) (track : Track) (o : Option ℕ) → s.own.track ≡ Some track → near track.next f.sequence ≡ o
    → take_number h f item s ≡ after_told (after_events (captured_event h o item) (told_of track s)) s
number_event h f item s track None e at =
    ap (λ o. after_number h o item s) (ap (λ o. new_number o f.sequence) e ∙ ap (unless_repeat track) at) ∙ sym (put_back s track e)
number_event h f item s track (Some n) e at = item_event h f item s track n e at

begun_same : (h : Heading) (packet : PacketModel) (f : Header) (s : Scene) (track : Track) → s.own.track ≡ Some track → begun h packet f s ≡ s
unfolding begun
begun_same h packet f s track e = ap (λ o. begin_track h packet f o s) e

data_event : (h : Heading) (a : Option ℕ) (packet : PacketModel) (f : Header) (content : List ℕ) (s : Scene) (track : Track) → s.own.track ≡ Some track
    → after_data h a packet f content s ≡ after_told (after_events (captured_event h (near track.next f.sequence) (carried h a f content)) (told_of track s)) s
unfolding after_data
data_event h a packet f content s track e =
    ap (take_number h f (carried h a f content)) (begun_same h packet f s track e) ∙ number_event h f (carried h a f content) s track (near track.next f.sequence) e refl

pub content_events : (h : Heading) (a : Option ℕ) (packet : PacketModel) (f : Header) (content : List ℕ) (s : Scene) (track : Track) → s.own.track ≡ Some track
    → after_content h a packet f content s
    ≡ after_told (after_events (cond (is_system f) [] (captured_event h (near track.next f.sequence) (carried h a f content))) (told_of track s)) s
unfolding after_content
content_events h a packet f content s track e = over (is_system f)
  where
    over : (p : Bool) → cond p s (after_data h a packet f content s)
        ≡ after_told (after_events (cond p [] (captured_event h (near track.next f.sequence) (carried h a f content))) (told_of track s)) s
    over true = sym (put_back s track e)
    over false = data_event h a packet f content s track e

pub packet_events : (h : Heading) (due : Due) (packet : PacketModel) (f : Header) (content : List ℕ) (s : Scene) (track : Track) → s.own.track ≡ Some track
    → after_packet h due packet f content s
    ≡ after_told (after_events (own_events h due f content track (other_reached h due.other s)) (told_of track s)) (other_reached h due.other s)
unfolding after_packet
packet_events h due packet f content s track e =
    let known = other_reached h due.other s in
    let items = cond (is_system f) [] (captured_event h (near track.next f.sequence) (carried h due.acknowledged f content)) in
    let acks = acknowledged_event h due.own in
    let u = after_events items (told_of track known) in
    ap (own_reached h due.own) (content_events h due.acknowledged packet f content known track (reached_own h due.other s ∙ e))
    ∙ own_reached_event h due.own (after_told u known) u.track refl
    ∙ ap (λ t. after_told t known) (sym (after_append items acks (told_of track known)))

-- ---- what is read then

-- the first item of a flow is read: that is an event of the flow
pub read_event : (h : Heading) (s : Scene) (track : Track) → s.own.track ≡ Some track → own_read h s ≡ after_told (first_read h (told_of track s)) s
read_event h s track e = flow_begun (first_read h) s track e

pub read_other : (h : Heading) (s : Scene) → (own_read h s).other.track ≡ s.other.track
read_other h s = flow_other (first_read h) s

pub read_none : (h : Heading) (s : Scene) → s.own.track ≡ None → own_read h s ≡ s
unfolding in_flow
read_none h s e = ap (λ o. in_track (first_read h) o s) e

-- ---- the numbers of items

pub read_back : NearestNumberIsReadBack → (next number : ℕ) → next ≤ most_items → next ≤ number + half_round → number < next + half_round → near next (number % field_round) ≡ Some number
read_back law next number most least below =
    ap (λ p. cond p None (nearest next (number % field_round))) (le-ltb most_items next most) ∙ law.back next number least below
