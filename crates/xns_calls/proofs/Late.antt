-- An item that comes next of its flow is not kept longer than 64 packets of its connection.
use Rattle.std.proofs.Common.{◌≡◌, ◌∙◌, ap, sym, refl, subst, arith, inl, inr, ℕ, ◌<◌, ◌≤◌, ◌⊎◌, Bool, true, false, List, [], ◌∷◌, ◌++◌, length, Option, Some, None}
use Rattle.std.specs.Prelude.{nat_lt, not}
use Rattle.std.proofs.lemmas.Bool.{ltb-false, ltb-true}
use Rattle.xns_idp.specs.Packet.{PacketModel}
use Rattle.xns_spp.specs.declared.header.Header.{Header}
use Rattle.xns_dump.specs.declared.flows.flow.Flow.{Flow}
use Rattle.xns_calls.specs.Acknowledged.{acknowledged_of, due_in, given_in, most_waited}
use Rattle.xns_calls.specs.Capture.{heading_at, new_connection, repeats_told, scene_in}
use Rattle.xns_calls.specs.Exchange.{Scene, after_packet}
use Rattle.xns_calls.specs.Held.{AreHandled, CameWith, Handled, IsHandled, NextItemsAreNotHeldLonger, acknowledges, behind_all, handled_by, handled_packets, scene_behind, track_behind, with_all, with_handled}
use Rattle.xns_calls.specs.InOrder.{WaitsForNone}
use Rattle.xns_calls.specs.Over.{side_in}
use Rattle.xns_calls.specs.Turns.{readable}
use Rattle.xns_calls.specs.declared.connection.Connection.{Connection}
use Rattle.xns_calls.specs.declared.origin.Origin.{Origin}
use Rattle.xns_calls.specs.declared.track.Track.{Track}
use Rattle.xns_calls.proofs.GoingOn.{GoesOn, all_go, goes_order, new_order}
use Rattle.xns_calls.proofs.Histories.{both_handled, handled_there, known_come, with_both}
use Rattle.xns_calls.proofs.InOrder.{can_so, settled_left}
use Rattle.xns_calls.specs.declared.carried.Carried.{Carried}
use Rattle.xns_calls.specs.declared.early.Early.{Early}
use Rattle.xns_calls.proofs.Bringers.{first_stands}
use Rattle.xns_calls.proofs.Held.{given_of, given_other, given_then}
use Rattle.xns_calls.proofs.LessAtEnd.{first_none}
use Rattle.xns_calls.proofs.Renewals.{none_new}

-- ---- an item that comes next

-- an item waits for nothing once what its packet acknowledges is waited for no longer
free_then : (old new : Option Track) (field given : ℕ) (a : Option ℕ) → a ≡ acknowledged_of old field → GoesOn old new
    → ((track : Track) (n : ℕ) → old ≡ Some track → a ≡ Some n → (n ≤ track.next) ⊎ (n ≤ given)) → WaitsForNone new given a
free_then old None field given a is on waited = tt
free_then old (Some new) field given None is on waited = tt
free_then None (Some new) field given (Some n) is on waited = absurd (let wrong : Some n ≡ None = is in (cc))
free_then (Some old) (Some new) field given (Some n) is on waited = by_wait (waited old n refl refl)
  where
    by_wait : (n ≤ old.next) ⊎ (n ≤ given) → WaitsForNone (Some new) given (Some n)
    by_wait (inl le) = let up : old.next ≤ new.next = on.0 in inl (omega (arith, le, up))
    by_wait (inr le) = inr (inl le)

-- ---- a packet of a connection

given_there : (n : Origin) (q : Bool) (packet : PacketModel) (f : Header) (content : List ℕ) (c : Connection) (s : Scene)
    → (due_in q f c).given ≡ given_in q (with_handled (handled_by n q packet f content s) c)
given_there n true packet f content c s = refl
given_there n false packet f content c s = refl

-- ---- what is left of a connection

-- of neither flow is an item kept that can be read
abbrev IsRead : Connection → Type 0
IsRead c = (d : Bool) → readable (side_in d c).track (side_in (not d) c).track (given_of (not d) c) ≡ None

packet_read : (packet : Handled) (c : Connection) → IsHandled packet c → IsRead (with_handled packet c)
packet_read packet c w = subst (λ x. IsRead (with_handled x c)) (sym w.is) (by_flow packet.is_behind)
  where
    f : Header
    f = packet.header

    left : Bool → Scene
    left q = scene_behind packet.origin q packet.sent f packet.content c w.known

    none : (q : Bool) → (readable (left q).own.track (left q).other.track (due_in q f c).given.other ≡ None) × (readable (left q).other.track (left q).own.track (due_in q f c).given.own ≡ None)
    none q =
        let given = (due_in q f c).given in
        let s = scene_in q c (repeats_told packet.origin q f c w.known) in
        first_none (readable (left q).own.track (left q).other.track given.other) (readable (left q).other.track (left q).own.track given.own)
        (settled_left (heading_at packet.origin c.number q) given (after_packet (heading_at packet.origin c.number q) (due_in q f c) packet.sent f packet.content s))

    by_flow : (q : Bool) → IsRead (with_handled (handled_by packet.origin q packet.sent f packet.content (left q)) c)
    by_flow true true = (none true).0
    by_flow true false = (none true).1
    by_flow false true = (none false).1
    by_flow false false = (none false).0

all_read : (packets : List Handled) (c : Connection) → AreHandled packets c → IsRead c → IsRead (with_all packets c)
all_read [] c are read = read
all_read (packet ∷ more) c are read = all_read more (with_handled packet c) are.1 (packet_read packet c are.0)

new_read : (number : ℕ) (flow : Flow) → IsRead (new_connection number flow)
new_read number flow true = refl
new_read number flow false = refl

-- ---- an item that is still kept

never_held : (number : ℕ) (flow : Flow) (before more : List Handled) (packet : Handled) (track : Track) (early : Early) (rest : List Early)
    → AreHandled (before ++ packet ∷ more) (new_connection number flow) → most_waited ≤ length more
    → early.item.acknowledged ≡ acknowledges packet (behind_all number flow before)
    → (side_in packet.is_behind (behind_all number flow (before ++ packet ∷ more))).track ≡ Some track
    → track.early ≡ early ∷ rest → early.number ≤ track.next → ⊥
never_held number flow before more packet track early rest are long is at first next =
    let b = packet.is_behind in
    let start = new_connection number flow in
    let c = behind_all number flow before in
    let last = behind_all number flow (before ++ packet ∷ more) in
    let parts = both_handled before (packet ∷ more) start are in
    let on : GoesOn (track_behind packet c) (side_in (not b) last).track =
    subst (λ (x : Connection). GoesOn (track_behind packet c) (side_in (not b) x).track) (sym (with_both before (packet ∷ more) start))
    (all_go (not b) (packet ∷ more) c parts.1 (goes_order (side_in (not b) start).track (track_behind packet c) (all_go (not b) before start parts.0 (new_order (not b) number flow)))) in
    let free : WaitsForNone (side_in (not b) last).track (given_of (not b) last) early.item.acknowledged =
    free_then (track_behind packet c) (side_in (not b) last).track packet.header.acknowledge (given_of (not b) last) early.item.acknowledged is on
    (λ old n there has. given_then number flow before more packet old n there (sym is ∙ has) long) in
    let none : readable (side_in b last).track (side_in (not b) last).track (given_of (not b) last) ≡ None = all_read (before ++ packet ∷ more) start are (new_read number flow) b in
    let line : Some early.item.line ≡ None =
    sym (can_so track (side_in (not b) last).track (given_of (not b) last) early (record { rest = rest; first = first; next = next; free = free }))
    ∙ ap (λ o. readable o (side_in (not b) last).track (given_of (not b) last)) (sym at) ∙ none in (cc)

came_late : (number : ℕ) (flow : Flow) (packets : List Handled) (d : Bool) (track : Track) (early : Early) (rest : List Early) → AreHandled packets (new_connection number flow)
    → (side_in d (behind_all number flow packets)).track ≡ Some track → track.early ≡ early ∷ rest → early.number ≤ track.next
    → (came : CameWith d packets (new_connection number flow) early.item) × (length came.more < most_waited)
came_late number flow packets d track early rest are at first next = (x, by_count (nat_lt (length x.more) most_waited) refl)
  where
    start : Connection
    start = new_connection number flow

    x : CameWith d packets start early.item
    x = first_stands d packets start track early rest are (none_new d number flow) at first

    by_count : (p : Bool) → nat_lt (length x.more) most_waited ≡ p → length x.more < most_waited
    by_count true few = ltb-true (length x.more) most_waited few
    by_count false long =
        absurd (never_held number flow x.before x.more x.packet track early rest (subst (λ ps. AreHandled ps start) x.are are) (ltb-false (length x.more) most_waited long) (ap (λ (y : Carried). y.acknowledged) x.brought)
        (ap (λ b. (side_in b (with_all (x.before ++ x.packet ∷ x.more) start)).track) x.own ∙ ap (λ ps. (side_in d (with_all ps start)).track) (sym x.are) ∙ at) first next)

pub not_held_longer : NextItemsAreNotHeldLonger
not_held_longer = record {
  packets = record { connection = handled_there; given = given_there; known = known_come };
  waited = λ number flow before more packet track n at is long.
      subst (λ g. (n ≤ track.next) ⊎ (n ≤ g)) (sym (given_other packet.is_behind (behind_all number flow (before ++ packet ∷ more))))
      (given_then number flow before more packet track n at is long);
  held = never_held;
  late = came_late;
  lines = λ programs lines i c d track early rest there at first next.
      let w = known_come programs lines i c there in
      came_late c.number c.flow (handled_packets programs i lines) d track early rest w.0 (sym (ap (λ (x : Connection). (side_in d x).track) w.1) ∙ at) first next;
}
