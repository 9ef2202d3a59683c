use Rattle.std.proofs.Common.{◌≡◌, ◌≢◌, ◌∙◌, ap, refl, rules, subst, sym, ℕ, None, Some, false, slice_get, true}
use Rattle.std.specs.Prelude.{◌==◌, not}
use Rattle.xns_idp.specs.Packet.{broadcast, packet_model}
use Rattle.xns_spp.specs.Packet.{SppPacketModel, opener_of}
use Rattle.xns_host.specs.Coming.{foreign}
use Rattle.xns_host.specs.Hosting.{IsThere, confirms}
use Rattle.xns_host.specs.Ours.{IsOfGuest}
use Rattle.xns_host.specs.Places.{PlaceTurns}
use Rattle.xns_host.specs.Services.{programs_at}
use Rattle.xns_host.specs.Turn.{places_of, whole_of}
use Rattle.xns_host.specs.Went.{GuestHears}
use Rattle.xns_host.specs.declared.guest.Guest.{Guest}
use Rattle.xns_host.proofs.Comings.{comes_heard, comes_opened, whole_by}
use Rattle.xns_host.proofs.Echoes.{not_every}
use Rattle.xns_host.proofs.Foreign.{named_not_ours, named_opens_none, sequenced_not_ours, unnamed_not_ours}
use Rattle.xns_host.proofs.Hearing.{found_is_named, one_spelled, spelled, the_packet}
use Rattle.xns_host.proofs.host.Host.sequenced.Goals as goal

pub returns-in_default-clause-comes : goal.returns-in_default-clause-comes
returns-in_default-clause-comes c = λ taken read.
    foreign (sequenced_not_ours (whole_of c.args.self.now) c.args.bytes.now (packet_model c.args.carrier.now) taken read c.requires.kind
    (λ p is n. let one = the_packet c.args.bytes.now (packet_model c.args.carrier.now) taken p c.carried_packet.result read is c.carried_packet.ensures.value in
    absurd (search rules))
    (λ p is n. let one = the_packet c.args.bytes.now (packet_model c.args.carrier.now) taken p c.carried_packet.result read is c.carried_packet.ensures.value in
    absurd (search rules)))

pub returns-then-ne-clause-comes : goal.returns-then-ne-clause-comes
returns-then-ne-clause-comes c = λ taken read.
    foreign (sequenced_not_ours (whole_of c.args.self.now) c.args.bytes.now (packet_model c.args.carrier.now) taken read c.requires.kind
    (λ p is n.
    let same : p ≡ c.in-Ok.packet
    = one_spelled c.args.bytes.now (packet_model c.args.carrier.now) taken p c.in-Ok.packet c.carried_packet.result read is c.carried_packet.ensures.value c.in-Ok.is in
    let ours : c.in-Ok.packet.target.host ≡ c.args.self.now.host = ap (λ (q : SppPacketModel). q.target.host) (sym same) ∙ n.here in
    absurd (search rules))
    (λ p is o.
    let same : p ≡ c.in-Ok.packet
    = one_spelled c.args.bytes.now (packet_model c.args.carrier.now) taken p c.in-Ok.packet c.carried_packet.result read is c.carried_packet.ensures.value c.in-Ok.is in
    let ours : c.in-Ok.packet.target.host ≡ c.args.self.now.host = ap (λ (q : SppPacketModel). q.target.host) (sym same) ∙ o.here in
    absurd (search rules)))

pub returns-in-Some-clause-comes : goal.returns-in-Some-clause-comes
returns-in-Some-clause-comes c = λ taken read.
    let is = spelled c.args.bytes.now (packet_model c.args.carrier.now) taken c.in-Ok.packet read c.carried_packet.ensures.value c.in-Ok.is in
    let id : c.packet.inside.header.target_id ≡ c.in-Ok.packet.header.target_id = search rules in
    let named = found_is_named c.args.self.now.register c.in-Ok.packet c.at-peer.result c.find.result (search rules) (search rules) ∙ c.in-Some.is in
    comes_heard c.args.now c.args.via c.args.bytes.now (whole_of c.args.self.now) _ c.hear.result c.in-Ok.packet c.in-Some.number is (search rules) named
    (λ yes.
    let both = c.hear.ensures.turn yes in (
      subst (λ (n : ℕ). IsThere (IsOfGuest c.in-Ok.packet) (slice_get c.args.self.now.guests.items n)) c.from.ensures both.0,
      subst (λ (n : ℕ). PlaceTurns (λ (g h : Guest). GuestHears c.args.now c.args.bytes.now (confirms c.in-Ok.packet) g h) n (places_of c.args.self.now)
          (places_of c.hear.new.self)) c.from.ensures
          (subst (λ (m : ℕ). PlaceTurns (λ (g h : Guest). GuestHears c.args.now c.args.bytes.now (not (m == 0)) g h) c.from.result (places_of c.args.self.now)
          (places_of c.hear.new.self)) id (both.1 c.args.bytes.now is)),
    ))
    (λ no. sequenced_not_ours (whole_of c.args.self.now) c.args.bytes.now (packet_model c.args.carrier.now) taken read c.requires.kind
    (λ p at. named_not_ours (whole_of c.args.self.now) p c.in-Ok.packet c.in-Some.number c.args.self.now.registered
    (one_spelled c.args.bytes.now (packet_model c.args.carrier.now) taken p c.in-Ok.packet c.carried_packet.result read at c.carried_packet.ensures.value c.in-Ok.is) named
    (λ g s there stands. c.hear.ensures.foreign no g s (subst (λ (n : ℕ). slice_get c.args.self.now.guests.items n ≡ Some (Some g)) (sym c.from.ensures) there)
    stands))
    (λ p at. named_opens_none (whole_of c.args.self.now) p c.in-Ok.packet c.in-Some.number
    (one_spelled c.args.bytes.now (packet_model c.args.carrier.now) taken p c.in-Ok.packet c.carried_packet.result read at c.carried_packet.ensures.value c.in-Ok.is) named))
    c.hear.ensures.rest
    (whole_by c.args.self.now c.hear.new.self _ _ _ c.hear.ensures.set_up c.hear.ensures.register c.hear.ensures.strays refl)

pub returns-then-is_broadcast-clause-comes : goal.returns-then-is_broadcast-clause-comes
returns-then-is_broadcast-clause-comes c = λ taken read.
    let none : c.find.result ≡ None = search rules in
    let named = found_is_named c.args.self.now.register c.in-Ok.packet c.at-peer.result c.find.result (search rules) (search rules) ∙ none in
    let source : c.packet.inside.source.host ≡ c.in-Ok.packet.source.host = search rules in
    let every : c.in-Ok.packet.source.host ≡ broadcast = sym source ∙ c.is_broadcast.ensures.0 (search rules) in
    foreign (sequenced_not_ours (whole_of c.args.self.now) c.args.bytes.now (packet_model c.args.carrier.now) taken read c.requires.kind
    (λ p at. unnamed_not_ours (whole_of c.args.self.now) p c.in-Ok.packet
    (one_spelled c.args.bytes.now (packet_model c.args.carrier.now) taken p c.in-Ok.packet c.carried_packet.result read at c.carried_packet.ensures.value c.in-Ok.is) named)
    (λ p at o.
    let same : p ≡ c.in-Ok.packet
    = one_spelled c.args.bytes.now (packet_model c.args.carrier.now) taken p c.in-Ok.packet c.carried_packet.result read at c.carried_packet.ensures.value c.in-Ok.is in
    o.one_host (ap (λ (q : SppPacketModel). q.source.host) same ∙ every)))

pub returns-clause-comes : goal.returns-clause-comes
returns-clause-comes c = λ taken read.
    let is = spelled c.args.bytes.now (packet_model c.args.carrier.now) taken c.in-Ok.packet read c.carried_packet.ensures.value c.in-Ok.is in
    let none : c.find.result ≡ None = search rules in
    let named = found_is_named c.args.self.now.register c.in-Ok.packet c.at-peer.result c.find.result (search rules) (search rules) ∙ none in
    let source : c.packet.inside.source.host ≡ c.in-Ok.packet.source.host = search rules in
    comes_opened c.args.now c.args.via c.args.bytes.now (whole_of c.args.self.now) _ c.opening.result c.in-Ok.packet is (search rules)
    (λ every. not_every c.is_broadcast.result (c.packet.inside.source.host ≡ broadcast) (search rules) c.is_broadcast.ensures (source ∙ every)) named
    (c.opening.ensures.opens is) c.opening.ensures.opener
    (λ no. sequenced_not_ours (whole_of c.args.self.now) c.args.bytes.now (packet_model c.args.carrier.now) taken read c.requires.kind
    (λ p at. unnamed_not_ours (whole_of c.args.self.now) p c.in-Ok.packet
    (one_spelled c.args.bytes.now (packet_model c.args.carrier.now) taken p c.in-Ok.packet c.carried_packet.result read at c.carried_packet.ensures.value c.in-Ok.is) named)
    (λ p at o.
    let same : p ≡ c.in-Ok.packet
    = one_spelled c.args.bytes.now (packet_model c.args.carrier.now) taken p c.in-Ok.packet c.carried_packet.result read at c.carried_packet.ensures.value c.in-Ok.is in
    let yes : c.opening.result ≡ true
    = c.opening.ensures.answer (subst (λ (q : SppPacketModel). opener_of q ≢ None) same o.opener)
    (subst (λ (q : SppPacketModel). programs_at c.args.self.now.services.programs q.target.socket ≢ None) same o.served) in
    let bad : true ≡ false = sym yes ∙ no in
    cc))
    c.opening.ensures.rest
    (whole_by c.args.self.now c.opening.new.self _ _ _ c.opening.ensures.set_up refl refl refl)
