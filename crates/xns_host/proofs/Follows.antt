-- What follows of a host from what its calls are.
use Rattle.std.proofs.Common.{◌≡◌, ◌∙◌, ap, arith, refl, subst, sym, ℕ, List, [], ◌∷◌, Bool, true, false, Option, Some, None, Result, Ok, Err, slice_get}
use Rattle.std.specs.Prelude.{◌&&◌, ◌==◌, nat_lt, not}
use Rattle.std.proofs.lemmas.Option.{same_Some}
use Rattle.xns_idp.specs.Packet.{PacketModel, same_place}
use Rattle.xns_idp.specs.Reading.{packet_of}
use Rattle.xns_agenda.specs.Clock.{time_at}
use Rattle.xns_agenda.specs.Turns.{HasNoTurn}
use Rattle.xns_agenda.specs.Waiting.{later}
use Rattle.xns_spp.specs.Ends.{is_ours_at}
use Rattle.xns_spp.specs.Held.{Held, StandsFor}
use Rattle.xns_spp.specs.Packet.{SppPacketModel, spp_packet_of}
use Rattle.xns_spp.specs.Nearest.{nearest}
use Rattle.xns_spp.specs.State.{State, numbers_of}
use Rattle.xns_spp.specs.Telling.{is_number_out, is_out, own_name}
use Rattle.xns_spp.specs.declared.ends.Ends.{Ends}
use Rattle.xns_spp.specs.declared.numbers.Numbers.{Numbers}
use Rattle.xns_host.specs.Coming.{Arrives, Comes, echoes, foreign, hears, meant, opens, refuses, unheard, unmeant}
use Rattle.xns_host.specs.Following.{AConnectionHearsItsPackets, WhoIsQuotedIsNotServed, ASilentHostHasNothingToTell, AStarvedHostRests, AnIdleHostHasNoPacket, NoNetworkDecides}
use Rattle.xns_host.specs.Hosting.{HasNoPacket, IsPacketOf, IsRefusedBy, confirms}
use Rattle.xns_host.specs.Ours.{Names, QuotesOurs}
use Rattle.xns_host.specs.Ours as ours
use Rattle.xns_host.specs.Places.{AsksEvent, AsksInVain, NextEvent, NextPacket, Places, PlaceTurns, another, gives, nobody, nothing, quiet, starves, tells, told}
use Rattle.xns_host.specs.Quotes.{is_sent_by, quoted_packet, sends_to}
use Rattle.xns_host.specs.Register.{owner_in}
use Rattle.xns_host.specs.Registered.{IsAllRegistered, named_in}
use Rattle.xns_host.specs.Turn.{whole_of}
use Rattle.xns_host.specs.Went.{GuestHears, GuestUnserved}
use Rattle.xns_host.specs.Whole.{Whole}
use Rattle.xns_host.specs.declared.event.Event.{Event}
use Rattle.xns_host.specs.declared.guest.Guest.{Guest}
use Rattle.xns_host.specs.declared.host_fault.HostFault.{HostFault}
use Rattle.xns_host.specs.declared.host_fault.HostFault.TheVariants.{NoMemory}
use Rattle.xns_host.specs.declared.quote.Quote.{Quote}
use Rattle.xns_host.specs.declared.outgoing.Outgoing.{Outgoing}
use Rattle.xns_host.proofs.Ends.{end_id, leads_to}
use Rattle.xns_host.proofs.Fetching.{no_event, no_packet}
use Rattle.xns_host.proofs.Hearing.{one_packet, sequenced_kind}

-- ---- what is left

asked_same : (now number : ℕ) (p r : Places) (o : Option Event) → o ≡ None → AsksEvent now number p o r → r.guests ≡ p.guests
asked_same now number p r o none (quiet place there silent) = refl
asked_same now number p r o none (tells g h event there some step) = absurd (cc)

vain_same : {now : ℕ} {p r : Places} → AsksInVain now p r → r.guests ≡ p.guests
vain_same nobody = refl
vain_same {now} {p} {r} (another {q = q} number vain first asks) = asked_same now number q r None refl asks ∙ vain_same vain

none_told : (now : ℕ) (p r : Places) (o : Option Event) → o ≡ None → NextEvent now p o r → (r.guests ≡ p.guests) × HasNoTurn r.agenda.events
none_told now p r o none (nothing vain left) = (vain_same vain, left)
none_told now p r o none (told number vain first asks) = absurd (cc)

pub nothing_to_tell : ASilentHostHasNothingToTell
nothing_to_tell old new event =
    let left = none_told old.clock.latest _ _ None refl event.next in
    no_event new.agenda old.guests.items new.guests.items new.noted (λ k. ap (λ (xs : List (Option Guest)). slice_get xs k) left.0) left.1

none_given : (now wait : ℕ) (p r : Places) (x : Result (Option Outgoing) HostFault) → x ≡ Ok None → NextPacket now wait p x r → HasNoTurn r.agenda.packets
none_given now wait p r x none (nothing gone left) = left
none_given now wait p r x none (gives number gone first asks) = absurd (cc)
none_given now wait p r x none (starves number gone first asks) = absurd (cc)

pub no_packet_left : AnIdleHostHasNoPacket
no_packet_left now old new out = by old.strays.waiting refl where
  by : (ws : List Outgoing) → old.strays.waiting ≡ ws → HasNoPacket new.guests.items
  by [] none = no_packet new.agenda new.guests.items new.noted (none_given _ _ _ _ (Ok None) refl (out.next none).0)
  by (o ∷ os) some = let bad = (out.stray o os some).0 in absurd (cc)

none_rests : (now wait : ℕ) (p r : Places) (x : Result (Option Outgoing) HostFault) → x ≡ Err NoMemory → NextPacket now wait p x r
    → r.agenda.short ≡ Some (later now wait)
none_rests now wait p r x short (nothing gone left) = absurd (cc)
none_rests now wait p r x short (gives number gone first asks) = absurd (cc)
none_rests now wait p r x short (starves number gone first asks) = refl

pub a_starved_one_rests : AStarvedHostRests
a_starved_one_rests now old new out = by old.strays.waiting refl where
  by : (ws : List Outgoing) → old.strays.waiting ≡ ws → new.agenda.short ≡ Some (later (time_at old.clock now) old.settings.first_wait)
  by [] none = none_rests _ _ _ _ (Err NoMemory) refl (out.next none).0
  by (o ∷ os) some = let bad = (out.stray o os some).0 in absurd (cc)

-- ---- whose a packet is

one_end : (g : Guest) (s v : State) → StandsFor g.connection.conversation.endpoint s → StandsFor g.connection.conversation.endpoint v → s.ends ≡ v.ends
one_end g s v here there = ap (λ (e : Held). e.ends) (sym here.holds ∙ there.holds)

names_it : (w : Whole) (p : SppPacketModel) (n : ℕ) (g : Guest) → IsAllRegistered w.register w.places.guests → IsPacketOf w.host p g
    → slice_get w.places.guests n ≡ Some (Some g) → Names w p
names_it w p n g all of there = record {
  here = of.here;
  number = n;
  named = leads_to w.register n g of.state p (all.each n g there) of.stands of.ours;
  there = record {
    guest = g;
    there = there;
    is = λ s stands. subst (λ (e : Ends). is_ours_at e p ≡ true) (one_end g of.state s of.stands stands) of.ours;
  };
}

heard_in : (now way : ℕ) (b : List ℕ) (w v : Whole) (r : Bool) (p : SppPacketModel) (n : ℕ) (g : Guest) → IsAllRegistered w.register w.places.guests
    → Comes now way b w r v → spp_packet_of b ≡ Ok p → IsPacketOf w.host p g → slice_get w.places.guests n ≡ Some (Some g)
    → (r ≡ true) × PlaceTurns (λ (f h : Guest). GuestHears now b (confirms p) f h) n w.places v.places
unfolding names_it
heard_in now way b w v r p n g all (foreign never) is of there = absurd (never (ours.names p is (names_it w p n g all of there)))
heard_in now way b w v r p n g all (echoes c taken read asks waits) is of there =
    let bad : 2 ≡ 5 = sym asks.request.kind ∙ sequenced_kind b c taken p read is in absurd (omega (arith, bad))
heard_in now way b w v r p n g all (refuses c taken read quotes turn) is of there =
    let bad : 3 ≡ 5 = sym quotes.kind ∙ sequenced_kind b c taken p read is in absurd (omega (arith, bad))
heard_in now way b w v r p n g all (hears q {q = places} read names turn) is of there =
    let same : q ≡ p = (let e = sym read ∙ is in cc) in
    let named : named_in w.register q ≡ Some n = ap (λ (x : SppPacketModel). named_in w.register x) same ∙ (names_it w p n g all of there).named in
    let one : names.number ≡ n = same_Some names.number n (sym names.named ∙ named) in (
      refl,
      subst (λ (x : SppPacketModel). PlaceTurns (λ (f h : Guest). GuestHears now b (confirms x) f h) n w.places places) same
          (subst (λ (m : ℕ). PlaceTurns (λ (f h : Guest). GuestHears now b (confirms q) f h) m w.places places) one turn),
    )
heard_in now way b w v r p n g all (opens q read opener made) is of there =
    let same : q ≡ p = (let e = sym read ∙ is in cc) in
    let named : named_in w.register q ≡ Some n = ap (λ (x : SppPacketModel). named_in w.register x) same ∙ (names_it w p n g all of there).named in
    let bad = sym opener.unnamed ∙ named in
    absurd (cc)

arrives_heard : (now way : ℕ) (b : List ℕ) (w v : Whole) (r : Bool) (p : SppPacketModel) (n : ℕ) (g : Guest) → IsAllRegistered w.register w.places.guests
    → Arrives now way b w r v → spp_packet_of b ≡ Ok p → IsPacketOf w.host p g → slice_get w.places.guests n ≡ Some (Some g)
    → (r ≡ true) × PlaceTurns (λ (f h : Guest). GuestHears now b (confirms p) f h) n w.places v.places
arrives_heard now way b w v r p n g all (meant comes) is of there = heard_in now way b w v true p n g all comes is of there
arrives_heard now way b w v r p n g all (unheard c taken comes read served complains) is of there =
    let bad = (heard_in now way b w w false p n g all comes is of there).0 in absurd (cc)
arrives_heard now way b w v r p n g all (unmeant comes never) is of there =
    let bad = (heard_in now way b w w false p n g all comes is of there).0 in absurd (cc)

pub its_packets_are_heard : AConnectionHearsItsPackets
its_packets_are_heard now way number bytes result old new p g takes is of there =
    arrives_heard _ way bytes (whole_of old) (whole_of new) result p number g old.registered takes.comes is of there

-- whether a packet went out of it lately is said by its fields and its numbers alone
one_numbers : (g : Guest) (s v : State) → StandsFor g.connection.conversation.endpoint s → StandsFor g.connection.conversation.endpoint v
    → numbers_of s ≡ numbers_of v
one_numbers g s v here there = ap (λ (e : Held). e.numbers) (sym here.holds ∙ there.holds)

number_out : (s v : State) (o : Option ℕ) → s.acknowledged ≡ v.acknowledged → s.sent ≡ v.sent → is_number_out s o ≡ is_number_out v o
number_out s v None acknowledged sent = refl
number_out s v (Some k) acknowledged sent =
    ap (λ (x : ℕ). not (nat_lt k x) && not (nat_lt s.sent k)) acknowledged ∙ ap (λ (x : ℕ). not (nat_lt k v.acknowledged) && not (nat_lt x k)) sent

one_sender : (g : Guest) (q : Quote) (s v : State) → s.ends ≡ v.ends → numbers_of s ≡ numbers_of v → is_sent_by g s q ≡ is_sent_by g v q
one_sender g q s v ends numbers =
    let sent : s.sent ≡ v.sent = ap (λ (n : Numbers). n.sent) numbers in
    let acknowledged : s.acknowledged ≡ v.acknowledged = ap (λ (n : Numbers). n.acknowledged) numbers in
    let out : is_out s q.sequence ≡ is_out v q.sequence
    = ap (λ (x : ℕ). is_number_out s (nearest x q.sequence)) sent ∙ number_out s v (nearest v.sent q.sequence) acknowledged sent in
    ap (λ (e : Ends). same_place (own_name e).0 q.source && (same_place (sends_to g e).0 q.target && ((sends_to g e).1 == q.target_id && is_out s q.sequence))) ends
    ∙ ap (λ (b : Bool). same_place (own_name v.ends).0 q.source && (same_place (sends_to g v.ends).0 q.target && ((sends_to g v.ends).1 == q.target_id && b))) out

quotes_it : (w : Whole) (p : PacketModel) (n : ℕ) (g : Guest) → IsAllRegistered w.register w.places.guests → IsRefusedBy w.host p g
    → slice_get w.places.guests n ≡ Some (Some g) → QuotesOurs w p
quotes_it w p n g all by there =
    let at = all.each n g there in
    record {
      kind = by.kind;
      here = by.here;
      quote = by.quote;
      quoted = by.quoted;
      number = n;
      owner = ap (λ (id : ℕ). owner_in w.register.identifiers id) (by.named ∙ end_id g by.state by.stands) ∙ at.own;
      there = record {
        guest = g;
        there = there;
        is = λ s stands.
            sym (one_sender g by.quote by.state s (one_end g by.state s by.stands stands) (one_numbers g by.state s by.stands stands)) ∙ by.sent;
      };
    }

same_packet : (b : List ℕ) (c p : PacketModel) (x y : ℕ) → packet_of b ≡ Ok (c, x) → packet_of b ≡ Ok (p, y) → c ≡ p
same_packet b c p x y left right = sym (one_packet c p x y (sym left) right)

unserved_in : (now way : ℕ) (b : List ℕ) (w v : Whole) (r : Bool) (p : PacketModel) (taken n : ℕ) (g : Guest)
    → IsAllRegistered w.register w.places.guests → Comes now way b w r v → packet_of b ≡ Ok (p, taken) → (by : IsRefusedBy w.host p g)
    → slice_get w.places.guests n ≡ Some (Some g) → (r ≡ true) × PlaceTurns (λ (f h : Guest). GuestUnserved now by.quote.error f h) n w.places v.places
unfolding quotes_it
unserved_in now way b w v r p taken n g all (foreign never) is by there = absurd (never (ours.quotes p taken is (quotes_it w p n g all by there)))
unserved_in now way b w v r p taken n g all (echoes c other read asks waits) is by there =
    let bad : 2 ≡ 3 = sym asks.request.kind ∙ (ap (λ (x : PacketModel). x.kind) (same_packet b c p other taken read is) ∙ by.kind) in
    absurd (omega (arith, bad))
unserved_in now way b w v r p taken n g all (refuses c other {q = places} read quotes turn) is by there =
    let same : c ≡ p = same_packet b c p other taken read is in
    let mine = quotes_it w p n g all by there in
    let quote : quotes.quote ≡ mine.quote
    = same_Some quotes.quote mine.quote (sym quotes.quoted ∙ (ap (λ (x : PacketModel). quoted_packet x.body) same ∙ mine.quoted)) in
    let one : quotes.number ≡ n
    = same_Some quotes.number n (sym quotes.owner ∙ (ap (λ (x : Quote). owner_in w.register.identifiers x.source_id) quote ∙ mine.owner)) in
    let error : quotes.quote.error ≡ by.quote.error = ap (λ (x : Quote). x.error) quote in (
      refl,
      subst (λ (e : ℕ). PlaceTurns (λ (f h : Guest). GuestUnserved now e f h) n w.places places) error
          (subst (λ (m : ℕ). PlaceTurns (λ (f h : Guest). GuestUnserved now quotes.quote.error f h) m w.places places) one turn),
    )
unserved_in now way b w v r p taken n g all (hears q read names turn) is by there =
    let bad : 3 ≡ 5 = sym by.kind ∙ sequenced_kind b p taken q is read in absurd (omega (arith, bad))
unserved_in now way b w v r p taken n g all (opens q read opener made) is by there =
    let bad : 3 ≡ 5 = sym by.kind ∙ sequenced_kind b p taken q is read in absurd (omega (arith, bad))

arrives_unserved : (now way : ℕ) (b : List ℕ) (w v : Whole) (r : Bool) (p : PacketModel) (taken n : ℕ) (g : Guest)
    → IsAllRegistered w.register w.places.guests → Arrives now way b w r v → packet_of b ≡ Ok (p, taken) → (by : IsRefusedBy w.host p g)
    → slice_get w.places.guests n ≡ Some (Some g) → (r ≡ true) × PlaceTurns (λ (f h : Guest). GuestUnserved now by.quote.error f h) n w.places v.places
arrives_unserved now way b w v r p taken n g all (meant comes) is by there = unserved_in now way b w v true p taken n g all comes is by there
arrives_unserved now way b w v r p taken n g all (unheard c other comes read served complains) is by there =
    let bad = (unserved_in now way b w w false p taken n g all comes is by there).0 in absurd (cc)
arrives_unserved now way b w v r p taken n g all (unmeant comes never) is by there =
    let bad = (unserved_in now way b w w false p taken n g all comes is by there).0 in absurd (cc)

pub a_quoted_one_is_unserved : WhoIsQuotedIsNotServed
a_quoted_one_is_unserved now way number taken bytes result old new p g takes is by there =
    arrives_unserved _ way bytes (whole_of old) (whole_of new) result p taken number g old.registered takes.comes is by there

-- ---- the network

pub no_network_decides : NoNetworkDecides
no_network_decides w network bytes (ours.asks p taken read asks) =
    ours.asks p taken read (record {
      answers = asks.answers;
      one_host = asks.one_host;
      request = record { kind = asks.request.kind; request = asks.request.request; socket = asks.request.socket; host = asks.request.host };
    })
no_network_decides w network bytes (ours.quotes p taken read q) =
    ours.quotes p taken read (record {
      kind = q.kind;
      here = q.here;
      quote = q.quote;
      quoted = q.quoted;
      number = q.number;
      owner = q.owner;
      there = q.there;
    })
no_network_decides w network bytes (ours.names p read n) =
    ours.names p read (record { here = n.here; number = n.number; named = n.named; there = n.there })
no_network_decides w network bytes (ours.opens p read o) =
    ours.opens p read (record { here = o.here; one_host = o.one_host; unnamed = o.unnamed; opener = o.opener; served = o.served })
