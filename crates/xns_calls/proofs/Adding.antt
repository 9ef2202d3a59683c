-- What a packet says of a flow is said under the flow's heading.
use Rattle.std.proofs.Common.{◌≡◌, ◌∙◌, ap, sym, refl, ℕ, ◌+◌, ◌-◌, ◌==◌, Bool, true, false, cond, List, [], ◌∷◌, ◌++◌, append_assoc, append-nil, Option, Some, None}
use Rattle.std.specs.Prelude.{nat_lt}
use Rattle.std.proofs.lemmas.Grind.{flat_map-append}
use Rattle.std.proofs.lemmas.Bool.{cond_both}
use Rattle.xns_idp.specs.Packet.{PacketModel}
use Rattle.xns_spp.specs.Header.{is_system}
use Rattle.xns_spp.specs.declared.header.Header.{Header}
use Rattle.xns_spp.specs.declared.item.Item.{Item}
use Rattle.xns_calls.specs.declared.carried.Carried.{Carried}
use Rattle.xns_calls.specs.Events.{acknowledged_event, after_events, brought_if, captured_event}
use Rattle.xns_calls.specs.Exchange.{Scene, advance_other, advance_own, advanced, after_content, after_data, after_new, after_number, after_packet, begin_track, begun, carried, in_flow, in_track, is_repeat, new_number, of_other, other_reached, own_reached, reached, seen_from_other, told_of, up_to}
use Rattle.xns_calls.specs.Input.{FlowSaid, begins, lacks, message, refuses, flow_said_text, said_texts}
use Rattle.xns_calls.specs.Numbers.{most_early}
use Rattle.xns_calls.specs.Reading.{Told, after_heard, brought, brought_over, first_read, first_read_over, item_read, item_taken, passed, past, read_next, said_item}
use Rattle.xns_calls.specs.Speech.{heard_of}
use Rattle.xns_calls.specs.Telling.{heard_text}
use Rattle.xns_calls.specs.Queue.{last_kept_number}
use Rattle.xns_calls.specs.declared.due.Due.{Due}
use Rattle.xns_calls.specs.declared.early.Early.{Early}
use Rattle.xns_calls.specs.declared.heading.Heading.{Heading}
use Rattle.xns_calls.specs.declared.heard.Heard.{Heard}
use Rattle.xns_calls.specs.declared.heard.Heard.TheVariants as heard
use Rattle.xns_calls.specs.declared.track.Track.{Track}
use Rattle.xns_calls.specs.Unanswered.{UnansweredCalls}
use Rattle.xns_calls.proofs.Steps.{with_early}

-- the text goes on with what is said under a heading
pub record Adds (h : Heading) (text more : List ℕ) : Type 0 where
  pub said : List FlowSaid
  pub is : more ≡ text ++ said_texts h said

adds_none : (h : Heading) (text : List ℕ) → Adds h text text
adds_none h text = record { said = []; is = sym (append-nil text) }

adds_one : (h : Heading) (text : List ℕ) (s : FlowSaid) → Adds h text (text ++ flow_said_text h s)
adds_one h text s = record { said = s ∷ []; is = ap (λ x. text ++ x) (sym (append-nil (flow_said_text h s))) }

adds_on : (h : Heading) (a b c : List ℕ) → Adds h a b → Adds h b c → Adds h a c
adds_on h a b c x y = record {
  said = x.said ++ y.said;
  is = y.is ∙ ap (λ t. t ++ said_texts h y.said) x.is ∙ append_assoc a (said_texts h x.said) (said_texts h y.said)
      ∙ ap (λ t. a ++ t) (sym (flat_map-append (flow_said_text h) x.said y.said));
}

-- ---- a flow

passed_adds : (h : Heading) (n : ℕ) (t : Told) → Adds h t.text (passed h n t).text
unfolding passed
passed_adds h n t =
    cond_both (nat_lt t.track.next n) (past h n t) t (λ (u : Told). Adds h t.text u.text) (λ e. adds_one h t.text (lacks t.track.next n)) (λ e. adds_none h t.text)

heard_adds : (h : Heading) (calls : UnansweredCalls) (x : Heard) (text : List ℕ) → Adds h text (text ++ heard_text h calls x)
heard_adds h calls heard.Nothing text = record { said = []; is = refl }
heard_adds h calls (heard.Message m) text = adds_one h text (message calls m)
heard_adds h calls (heard.Fault fault) text = adds_one h text (refuses fault)

said_adds : (h : Heading) (item : Item) (t : Told) → Adds h t.text (said_item h item t).text
unfolding said_item after_heard
said_adds h item t = heard_adds h t.calls (heard_of t.track.speech item) t.text

next_adds : (h : Heading) (n : ℕ) (item : Item) (t : Told) → Adds h t.text (read_next h n item t).text
next_adds h n item t =
    let onwards : Told = record t { track = record t.track { next = n } } in
    cond_both (item.stream == 0) (said_item h item onwards) onwards (λ (u : Told). Adds h t.text u.text) (λ e. said_adds h item onwards) (λ e. adds_none h t.text)

item_adds : (h : Heading) (early : Early) (t : Told) → Adds h t.text (item_read h early t).text
unfolding item_read
item_adds h early t =
    let u = passed h early.number t in
    adds_on h t.text u.text (read_next h (early.number + 1) early.item.item u).text (passed_adds h early.number t) (next_adds h (early.number + 1) early.item.item u)

over_adds : (h : Heading) (n : ℕ) (es : List Early) (t : Told) → Adds h t.text (brought_over h n es t).text
over_adds h n [] t = passed_adds h n t
over_adds h n (early ∷ rest) t =
    let u = item_read h early (with_early rest t) in
    cond_both (nat_lt early.number n) (brought_over h n rest u) (passed h n t) (λ (v : Told). Adds h t.text v.text)
    (λ e. adds_on h t.text u.text (brought_over h n rest u).text (item_adds h early (with_early rest t)) (over_adds h n rest u)) (λ e. passed_adds h n t)

brought_adds : (h : Heading) (n : ℕ) (t : Told) → Adds h t.text (brought h n t).text
unfolding brought
brought_adds h n t = over_adds h n t.track.early t

taken_adds : (h : Heading) (n : ℕ) (item : Carried) (t : Told) → Adds h t.text (item_taken h n item t).text
taken_adds h n item t = brought_adds h (n - most_early) t

first_over_adds : (h : Heading) (es : List Early) (t : Told) → Adds h t.text (first_read_over h es t).text
first_over_adds h [] t = adds_none h t.text
first_over_adds h (early ∷ rest) t =
    cond_both (nat_lt t.track.next early.number) t (item_read h early (with_early rest t)) (λ (v : Told). Adds h t.text v.text) (λ e. adds_none h t.text) (λ e. item_adds h early (with_early rest t))

pub first_adds : (h : Heading) (t : Told) → Adds h t.text (first_read h t).text
unfolding first_read
first_adds h t = first_over_adds h t.track.early t

-- ---- a connection

-- what is read of one flow adds no more where both are seen
pub flow_adds : (h : Heading) (reads : Told → Told) (s : Scene) → ((t : Told) → Adds h t.text (reads t).text) → Adds h s.text (in_flow reads s).text
unfolding in_flow
flow_adds h reads s adds = by_track s.own.track
  where
    by_track : (o : Option Track) → Adds h s.text (in_track reads o s).text
    by_track None = adds_none h s.text
    by_track (Some track) = adds (told_of track s)

advanced_adds : (h : Heading) (n : ℕ) (s : Scene) → Adds h s.text (advanced h n s).text
advanced_adds h n s = flow_adds h (brought h n) s (brought_adds h n)

other_adds : (h : Heading) (o : Option ℕ) (s : Scene) → Adds (of_other h) s.text (advance_other h o s).text
other_adds h None s = adds_none (of_other h) s.text
other_adds h (Some n) s = advanced_adds (of_other h) n (seen_from_other s)

-- what takes effect of the flow behind is said of that flow
pub reached_adds : (h : Heading) (number : Option ℕ) (s : Scene) → Adds (of_other h) s.text (other_reached h number s).text
unfolding other_reached
reached_adds h number s = other_adds h (reached s.other.track number) s

begin_adds : (h : Heading) (packet : PacketModel) (f : Header) (o : Option Track) (s : Scene) → Adds h s.text (begin_track h packet f o s).text
begin_adds h packet f (Some track) s = adds_none h s.text
begin_adds h packet f None s = adds_one h s.text (begins packet f)

begun_adds : (h : Heading) (packet : PacketModel) (f : Header) (s : Scene) → Adds h s.text (begun h packet f s).text
unfolding begun
begun_adds h packet f s = begin_adds h packet f s.own.track s

pub number_adds : (h : Heading) (o : Option ℕ) (item : Carried) (s : Scene) → Adds h s.text (after_number h o item s).text
unfolding after_new
number_adds h None item s = adds_none h s.text
number_adds h (Some n) item s = flow_adds h (item_taken h n item) s (taken_adds h n item)

data_adds : (h : Heading) (a : Option ℕ) (packet : PacketModel) (f : Header) (content : List ℕ) (s : Scene) → Adds h s.text (after_data h a packet f content s).text
unfolding after_data
data_adds h a packet f content s =
    let u = begun h packet f s in
    adds_on h s.text u.text (after_number h (new_number u.own.track f.sequence) (carried h a f content) u).text (begun_adds h packet f s)
    (number_adds h (new_number u.own.track f.sequence) (carried h a f content) u)

-- what an item of the packet's own flow adds
pub own_adds : (h : Heading) (o : Option ℕ) (s : Scene) → Adds h s.text (advance_own h o s).text
own_adds h None s = adds_none h s.text
own_adds h (Some n) s = advanced_adds h n s

content_adds : (h : Heading) (a : Option ℕ) (packet : PacketModel) (f : Header) (content : List ℕ) (s : Scene) → Adds h s.text (after_content h a packet f content s).text
unfolding after_content
content_adds h a packet f content s =
    cond_both (is_system f) s (after_data h a packet f content s) (λ (u : Scene). Adds h s.text u.text) (λ e. adds_none h s.text) (λ e. data_adds h a packet f content s)

own_reached_adds : (h : Heading) (number : Option ℕ) (s : Scene) → Adds h s.text (own_reached h number s).text
unfolding own_reached
own_reached_adds h number s = own_adds h (reached s.own.track number) s

pub packet_adds : (h : Heading) (due : Due) (packet : PacketModel) (f : Header) (content : List ℕ) (s : Scene)
    → Adds h (other_reached h due.other s).text (after_packet h due packet f content s).text
unfolding after_packet
packet_adds h due packet f content s =
    let known = other_reached h due.other s in
    let new = after_content h due.acknowledged packet f content known in
    adds_on h known.text new.text (own_reached h due.own new).text (content_adds h due.acknowledged packet f content known) (own_reached_adds h due.own new)

-- ---- events

if_adds : (h : Heading) (o : Option ℕ) (t : Told) → Adds h t.text (brought_if h o t).text
if_adds h None t = adds_none h t.text
if_adds h (Some n) t = brought_adds h n t

effect_adds : (h : Heading) (o : Option ℕ) (t : Told) → Adds h t.text (after_events (acknowledged_event h o) t).text
effect_adds h None t = adds_none h t.text
effect_adds h (Some n) t = if_adds h (up_to (last_kept_number t.track.early) (Some n)) t

captured_adds : (h : Heading) (o : Option ℕ) (item : Carried) (t : Told) → Adds h t.text (after_events (captured_event h o item) t).text
captured_adds h None item t = adds_none h t.text
captured_adds h (Some n) item t =
    cond_both (is_repeat n t.track) t (item_taken h n item t) (λ (u : Told). Adds h t.text u.text) (λ e. adds_none h t.text) (λ e. taken_adds h n item t)

item_adds_to : (p : Bool) (h : Heading) (o : Option ℕ) (item : Carried) (t : Told) → Adds h t.text (after_events (cond p [] (captured_event h o item)) t).text
item_adds_to true h o item t = adds_none h t.text
item_adds_to false h o item t = captured_adds h o item t

-- what an item says, and what takes effect says behind it
pub both_add : (p : Bool) (h : Heading) (o : Option ℕ) (item : Carried) (a : Option ℕ) (t : Told)
    → Adds h t.text (after_events (cond p [] (captured_event h o item)) t).text
    × Adds h (after_events (cond p [] (captured_event h o item)) t).text (after_events (acknowledged_event h a) (after_events (cond p [] (captured_event h o item)) t)).text
both_add p h o item a t = (item_adds_to p h o item t, effect_adds h a (after_events (cond p [] (captured_event h o item)) t))
