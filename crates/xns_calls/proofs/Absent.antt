-- A flow that has not begun stays so, where no packet of its own begins it.
use Rattle.std.proofs.Common.{◌≡◌, ◌∙◌, ap, sym, ℕ, zero, suc, ◌+◌, ◌==◌, Bool, true, false, cond, List, [], ◌∷◌, Option, Some, None, is_some}
use Rattle.std.specs.Prelude.{nat_lt, ◌-◌}
use Rattle.courier_messages.specs.declared.message.Message.{Message}
use Rattle.courier_messages.specs.declared.message.Message.TheVariants.{Call, Reject, Return, Abort}
use Rattle.xns_idp.specs.Packet.{PacketModel}
use Rattle.xns_lines.specs.declared.page.Page.{Page}
use Rattle.xns_spp.specs.Header.{is_system}
use Rattle.xns_spp.specs.declared.header.Header.{Header}
use Rattle.xns_spp.specs.declared.item.Item.{Item}
use Rattle.xns_calls.specs.declared.carried.Carried.{Carried}
use Rattle.xns_calls.specs.declared.given.Given.{Given}
use Rattle.xns_calls.specs.declared.early.Early.{Early}
use Rattle.xns_calls.specs.declared.due.Due.{Due}
use Rattle.xns_calls.specs.declared.heading.Heading.{Heading}
use Rattle.xns_calls.specs.declared.heard.Heard.{Heard}
use Rattle.xns_calls.specs.declared.heard.Heard.TheVariants as heard
use Rattle.xns_calls.specs.declared.side.Side.{Side}
use Rattle.xns_calls.specs.declared.track.Track.{Track}
use Rattle.xns_calls.specs.Unanswered.{UnansweredCalls}
use Rattle.xns_calls.specs.declared.waiting.Waiting.{Waiting}
use Rattle.xns_calls.specs.AtEnd.{both_ended, end_turn, ended_of, ended_times, first_in, one_ended, own_ended, read_behind}
use Rattle.xns_calls.specs.declared.first_kept.FirstKept.{FirstKept}
use Rattle.xns_calls.specs.Exchange.{Scene, advance_other, advance_own, advanced, after_content, after_data, after_new, after_number, after_packet, begin_track, begun, carried, new_number, no_side, in_flow, in_track, of_other, other_reached, own_reached, reached, scene, seen_from_other, told_of}
use Rattle.xns_calls.specs.Numbers.{most_early}
use Rattle.xns_calls.specs.Reading.{Told, after_heard, brought, brought_over, first_read, first_read_over, item_read, item_taken, passed, past, read_next, said_item}
use Rattle.xns_calls.specs.Read.{handled, kept_item_count, one_read, own_read, read_of, read_times, settled}
use Rattle.xns_calls.specs.Turns.{next_turn}
use Rattle.xns_calls.proofs.Packets.{read_none}
use Rattle.xns_calls.specs.Speech.{heard_of}
use Rattle.xns_calls.specs.Telling.{after_message, call_left, calls_after}

-- ---- where no call of the flow behind waits, none waits later

message_asked : (h : Heading) (calls : UnansweredCalls) (m : Message) → calls.asked ≡ None → (after_message h calls m).asked ≡ None
message_asked h calls (Call transaction program version procedure words) e = e
message_asked h calls (Reject transaction reason words) e = ap (λ o. call_left o transaction) e
message_asked h calls (Return transaction words) e = ap (λ o. call_left o transaction) e
message_asked h calls (Abort transaction error words) e = ap (λ o. call_left o transaction) e

heard_asked : (h : Heading) (calls : UnansweredCalls) (x : Heard) → calls.asked ≡ None → (calls_after h calls x).asked ≡ None
heard_asked h calls heard.Nothing e = e
heard_asked h calls (heard.Message message) e = message_asked h calls message e
heard_asked h calls (heard.Fault fault) e = e

said_asked : (h : Heading) (item : Item) (t : Told) → t.calls.asked ≡ None → (said_item h item t).calls.asked ≡ None
unfolding said_item after_heard
said_asked h item t e = heard_asked h t.calls (heard_of t.track.speech item) e

next_asked : (h : Heading) (next : ℕ) (item : Item) (t : Told) → t.calls.asked ≡ None → (read_next h next item t).calls.asked ≡ None
next_asked h next item t e = over (item.stream == 0)
  where
    onwards : Told
    onwards = record t { track = record t.track { next = next } }

    over : (p : Bool) → (cond p (said_item h item onwards) onwards).calls.asked ≡ None
    over true = said_asked h item onwards e
    over false = e

passed_asked : (h : Heading) (n : ℕ) (t : Told) → t.calls.asked ≡ None → (passed h n t).calls.asked ≡ None
unfolding passed
passed_asked h n t e = over (nat_lt t.track.next n)
  where
    over : (p : Bool) → (cond p (past h n t) t).calls.asked ≡ None
    over true = e
    over false = e

item_asked : (h : Heading) (early : Early) (t : Told) → t.calls.asked ≡ None → (item_read h early t).calls.asked ≡ None
unfolding item_read
item_asked h early t e = next_asked h _ early.item.item (passed h early.number t) (passed_asked h early.number t e)

over_asked : (h : Heading) (n : ℕ) (kept : List Early) (t : Told) → t.calls.asked ≡ None → (brought_over h n kept t).calls.asked ≡ None
over_asked h n [] t e = passed_asked h n t e
over_asked h n (early ∷ rest) t e = by_due (nat_lt early.number n) (over_asked h n rest read (item_asked h early left e))
  where
    left : Told
    left = record t { track = record t.track { early = rest } }

    read : Told
    read = item_read h early left

    by_due : (p : Bool) → (brought_over h n rest read).calls.asked ≡ None → (cond p (brought_over h n rest read) (passed h n t)).calls.asked ≡ None
    by_due true more = more
    by_due false more = passed_asked h n t e

brought_asked : (h : Heading) (n : ℕ) (t : Told) → t.calls.asked ≡ None → (brought h n t).calls.asked ≡ None
unfolding brought
brought_asked h n t e = over_asked h n t.track.early t e

first_over_asked : (h : Heading) (kept : List Early) (t : Told) → t.calls.asked ≡ None → (first_read_over h kept t).calls.asked ≡ None
first_over_asked h [] t e = e
first_over_asked h (early ∷ rest) t e = by_due (nat_lt t.track.next early.number)
  where
    left : Told
    left = record t { track = record t.track { early = rest } }

    by_due : (p : Bool) → (cond p t (item_read h early left)).calls.asked ≡ None
    by_due true = e
    by_due false = item_asked h early left e

first_asked : (h : Heading) (t : Told) → t.calls.asked ≡ None → (first_read h t).calls.asked ≡ None
unfolding first_read
first_asked h t e = first_over_asked h t.track.early t e

taken_asked : (h : Heading) (n : ℕ) (item : Carried) (t : Told) → t.calls.asked ≡ None → (item_taken h n item t).calls.asked ≡ None
taken_asked h n item t e = brought_asked h (n - most_early) t e

-- ---- where the flow behind has not begun

left_none : (side : Side) (call : Option Waiting) → side ≡ no_side → call ≡ None → record side { call = call } ≡ no_side
left_none side call none e = ap (λ (s : Side). record s { call = call }) none ∙ ap (λ o. record { track = None; call = o }) e

-- what is read of one flow, where no call of the flow behind waits
flow_none : (reads : Told → Told) (s : Scene) → ((t : Told) → t.calls.asked ≡ None → (reads t).calls.asked ≡ None) → s.other ≡ no_side → (in_flow reads s).other ≡ no_side
unfolding in_flow
flow_none reads s asked none = by_track s.own.track
  where
    by_track : (o : Option Track) → (in_track reads o s).other ≡ no_side
    by_track None = none
    by_track (Some track) = left_none s.other (reads (told_of track s)).calls.asked none (asked (told_of track s) (ap (λ (x : Side). x.call) none))

advanced_none : (h : Heading) (n : ℕ) (s : Scene) → s.other ≡ no_side → (advanced h n s).other ≡ no_side
advanced_none h n s none = flow_none (brought h n) s (brought_asked h n) none

reached_none : (h : Heading) (number : Option ℕ) (s : Scene) → s.other ≡ no_side → (other_reached h number s).other ≡ no_side
unfolding other_reached
reached_none h number s none = ap (λ (x : Side). (advance_other h (reached x.track number) s).other) none ∙ none

own_none : (h : Heading) (o : Option ℕ) (s : Scene) → s.other ≡ no_side → (advance_own h o s).other ≡ no_side
own_none h None s none = none
own_none h (Some n) s none = advanced_none h n s none

own_reached_none : (h : Heading) (number : Option ℕ) (s : Scene) → s.other ≡ no_side → (own_reached h number s).other ≡ no_side
unfolding own_reached
own_reached_none h number s none = own_none h (reached s.own.track number) s none

begun_none : (h : Heading) (packet : PacketModel) (f : Header) (s : Scene) → s.other ≡ no_side → (begun h packet f s).other ≡ no_side
unfolding begun
begun_none h packet f s none = elim s.own.track as (λ o. (begin_track h packet f o s).other ≡ no_side) [ None ↦ none | Some track ↦ none ]

new_none : (h : Heading) (n : ℕ) (item : Carried) (s : Scene) → s.other ≡ no_side → (after_new h n item s).other ≡ no_side
unfolding after_new
new_none h n item s none = flow_none (item_taken h n item) s (taken_asked h n item) none

number_none : (h : Heading) (o : Option ℕ) (item : Carried) (s : Scene) → s.other ≡ no_side → (after_number h o item s).other ≡ no_side
number_none h None item s none = none
number_none h (Some n) item s none = new_none h n item s none

data_none : (h : Heading) (a : Option ℕ) (packet : PacketModel) (f : Header) (content : List ℕ) (s : Scene) → s.other ≡ no_side → (after_data h a packet f content s).other ≡ no_side
unfolding after_data
data_none h a packet f content s none =
    number_none h (new_number (begun h packet f s).own.track f.sequence) (carried h a f content) (begun h packet f s) (begun_none h packet f s none)

content_none : (h : Heading) (a : Option ℕ) (packet : PacketModel) (f : Header) (content : List ℕ) (s : Scene) → s.other ≡ no_side → (after_content h a packet f content s).other ≡ no_side
unfolding after_content
content_none h a packet f content s none = over (is_system f)
  where
    over : (p : Bool) → (cond p s (after_data h a packet f content s)).other ≡ no_side
    over true = none
    over false = data_none h a packet f content s none

packet_none : (h : Heading) (due : Due) (packet : PacketModel) (f : Header) (content : List ℕ) (s : Scene) → s.other ≡ no_side → (after_packet h due packet f content s).other ≡ no_side
unfolding after_packet
packet_none h due packet f content s none =
    let known = other_reached h due.other s in
    own_reached_none h due.own (after_content h due.acknowledged packet f content known) (content_none h due.acknowledged packet f content known (reached_none h due.other s none))

-- a flow that has not begun does not begin either where items are read
read_other_none : (h : Heading) (s : Scene) → s.other ≡ no_side → (own_read h s).other ≡ no_side
read_other_none h s none = flow_none (first_read h) s (first_asked h) none

read_own_none : (h : Heading) (s : Scene) → s.own ≡ no_side → (own_read h s).own ≡ no_side
read_own_none h s none = ap (λ (x : Scene). x.own) (read_none h s (ap (λ (x : Side). x.track) none)) ∙ none

turn_other_none : (h : Heading) (o : Option Bool) (s : Scene) → s.other ≡ no_side → (read_of h o s).other ≡ no_side
turn_other_none h None s none = none
turn_other_none h (Some false) s none = read_other_none h s none
turn_other_none h (Some true) s none = read_own_none (of_other h) (seen_from_other s) none

turn_own_none : (h : Heading) (o : Option Bool) (s : Scene) → s.own ≡ no_side → (read_of h o s).own ≡ no_side
turn_own_none h None s none = none
turn_own_none h (Some false) s none = read_own_none h s none
turn_own_none h (Some true) s none = read_other_none (of_other h) (seen_from_other s) none

times_other_none : (n : ℕ) (h : Heading) (given : Given) (s : Scene) → s.other ≡ no_side → (read_times n h given s).other ≡ no_side
times_other_none zero h given s none = none
times_other_none (suc n) h given s none = times_other_none n h given (one_read h given s) (turn_other_none h (next_turn given s.own.track s.other.track) s none)

times_own_none : (n : ℕ) (h : Heading) (given : Given) (s : Scene) → s.own ≡ no_side → (read_times n h given s).own ≡ no_side
times_own_none zero h given s none = none
times_own_none (suc n) h given s none = times_own_none n h given (one_read h given s) (turn_own_none h (next_turn given s.own.track s.other.track) s none)

settled_other_none : (h : Heading) (given : Given) (s : Scene) → s.other ≡ no_side → (settled h given s).other ≡ no_side
unfolding settled
settled_other_none h given s none = times_other_none (kept_item_count s.own.track + kept_item_count s.other.track) h given s none

settled_own_none : (h : Heading) (given : Given) (s : Scene) → s.own ≡ no_side → (settled h given s).own ≡ no_side
unfolding settled
settled_own_none h given s none = times_own_none (kept_item_count s.own.track + kept_item_count s.other.track) h given s none

pub alone : (h : Heading) (due : Due) (packet : PacketModel) (f : Header) (content : List ℕ) (own other own' other' : Side) (page page' : Page) → other ≡ no_side
    → scene own' other' page' ≡ handled h due packet f content (scene own other page) → scene own' no_side page' ≡ handled h due packet f content (scene own no_side page)
alone h due packet f content own other own' other' page page' is e =
    let s : Scene = scene own other page in
    let none : other' ≡ no_side = ap (λ (x : Scene). x.other) e ∙ settled_other_none h due.given (after_packet h due packet f content s) (packet_none h due packet f content s is) in
    ap (λ x. scene own' x page') (sym none) ∙ e ∙ ap (λ x. handled h due packet f content (scene own x page)) is

-- ---- where a flow has not begun itself

other_none : (h : Heading) (o : Option ℕ) (s : Scene) → s.own ≡ no_side → (advance_other h o s).own ≡ no_side
other_none h None s none = none
other_none h (Some n) s none = advanced_none (of_other h) n (seen_from_other s) none

own_stays : (h : Heading) (number : Option ℕ) (s : Scene) → s.own ≡ no_side → (own_reached h number s).own ≡ no_side
unfolding own_reached
own_stays h number s none = ap (λ (x : Side). (advance_own h (reached x.track number) s).own) none ∙ none

system_stays : (h : Heading) (a : Option ℕ) (packet : PacketModel) (f : Header) (content : List ℕ) (s : Scene) → is_system f ≡ true → after_content h a packet f content s ≡ s
unfolding after_content
system_stays h a packet f content s system = ap (λ p. cond p s (after_data h a packet f content s)) system

pub before : (h : Heading) (due : Due) (packet : PacketModel) (f : Header) (content : List ℕ) (own other own' other' : Side) (page page' : Page) → own ≡ no_side → is_system f ≡ true
    → scene own' other' page' ≡ handled h due packet f content (scene own other page) → scene no_side other' page' ≡ handled h due packet f content (scene no_side other page)
unfolding after_packet other_reached
before h due packet f content own other own' other' page page' is system e =
    let s : Scene = scene own other page in
    let known : Scene = other_reached h due.other s in
    let stays : known.own ≡ no_side = other_none h (reached other.track due.other) s is in
    let taken : (after_packet h due packet f content s).own ≡ no_side =
    ap (λ (x : Scene). x.own) (ap (own_reached h due.own) (system_stays h due.acknowledged packet f content known system)) ∙ own_stays h due.own known stays in
    let none : own' ≡ no_side = ap (λ (x : Scene). x.own) e ∙ settled_own_none h due.given (after_packet h due packet f content s) taken in
    ap (λ x. scene x other' page') (sym none) ∙ e ∙ ap (λ x. handled h due packet f content (scene x other page)) is

-- ---- at the end

behind_other_none : (h : Heading) (o : Option FirstKept) (s : Scene) → s.other ≡ no_side → (read_behind h o s).other ≡ no_side
behind_other_none h None s none = none
behind_other_none h (Some first) s none = advanced_none h (first.number + 1) (other_reached h first.acknowledged s) (reached_none h first.acknowledged s none)

ended_other_none : (h : Heading) (s : Scene) → s.other ≡ no_side → (own_ended h s).other ≡ no_side
unfolding own_ended
ended_other_none h s none = behind_other_none h (first_in s.own.track) s none

ended_own_none : (h : Heading) (s : Scene) → s.own ≡ no_side → (own_ended h s).own ≡ no_side
unfolding own_ended
ended_own_none h s none = ap (λ (x : Side). (read_behind h (first_in x.track) s).own) none ∙ none

end_turn_none : (h : Heading) (o : Option Bool) (s : Scene) → s.other ≡ no_side → (ended_of h o s).other ≡ no_side
end_turn_none h None s none = none
end_turn_none h (Some false) s none = ended_other_none h s none
end_turn_none h (Some true) s none = ended_own_none (of_other h) (seen_from_other s) none

end_times_none : (n : ℕ) (h : Heading) (s : Scene) → s.other ≡ no_side → (ended_times n h s).other ≡ no_side
end_times_none zero h s none = none
end_times_none (suc n) h s none = end_times_none n h (one_ended h s) (end_turn_none h (end_turn s.own.track s.other.track) s none)

both_none : (h : Heading) (s : Scene) → s.other ≡ no_side → (both_ended h s).other ≡ no_side
unfolding both_ended
both_none h s none = end_times_none (kept_item_count s.own.track + kept_item_count s.other.track) h s none

pub ended_alone : (h : Heading) (own other own' other' : Side) (page page' : Page) → other ≡ no_side
    → scene own' other' page' ≡ both_ended h (scene own other page) → scene own' no_side page' ≡ both_ended h (scene own no_side page)
ended_alone h own other own' other' page page' is e =
    let none : other' ≡ no_side = ap (λ (s : Scene). s.other) e ∙ both_none h (scene own other page) is in
    ap (λ x. scene own' x page') (sym none) ∙ e ∙ ap (λ x. both_ended h (scene own x page)) is

pub alone_wants : (own other : Side) → other ≡ no_side → is_some (end_turn own.track other.track) ≡ true → is_some (end_turn own.track None) ≡ true
alone_wants own other is e = ap (λ (x : Side). is_some (end_turn own.track x.track)) (sym is) ∙ e
