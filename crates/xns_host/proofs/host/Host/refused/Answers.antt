use Rattle.std.proofs.Common.{◌≡◌, ◌∙◌, rules, subst, sym, ℕ, Some, slice_get}
use Rattle.xns_idp.specs.Packet.{packet_model}
use Rattle.xns_host.specs.Hosting.{IsThere}
use Rattle.xns_host.specs.Ours.{IsSentBy}
use Rattle.xns_host.specs.Places.{PlaceTurns}
use Rattle.xns_host.specs.Turn.{places_of, whole_of}
use Rattle.xns_host.specs.Went.{GuestUnserved}
use Rattle.xns_host.specs.declared.guest.Guest.{Guest}
use Rattle.xns_host.proofs.Foreign.{quoted_not_ours, unowned_not_ours, unquoted_not_ours}
use Rattle.xns_host.proofs.host.Host.refused.Goals as goal

pub returns-clause-refuses : goal.returns-clause-refuses
returns-clause-refuses c = λ kind yes.
    let both = c.not_served.ensures.turn yes in (
      record {
        kind = kind;
        here = search rules;
        quote = c.in-Some.quote;
        quoted = sym c.quoted_packet.ensures ∙ c.in-Some.is;
        number = c.in-Some-owner.number;
        owner = sym c.owner.ensures ∙ c.in-Some-owner.is;
        there = subst (λ (m : ℕ). IsThere (IsSentBy c.in-Some.quote) (slice_get c.args.self.now.guests.items m)) c.from.ensures both.0;
      },
      subst (λ (m : ℕ). PlaceTurns (λ (g h : Guest). GuestUnserved c.args.now c.in-Some.quote.error g h) m (places_of c.args.self.now) (places_of c.not_served.new.self))
          c.from.ensures both.1,
    )

pub returns-then-ne-clause-foreign : goal.returns-then-ne-clause-foreign
returns-then-ne-clause-foreign c = λ no q. let here = q.here in absurd (search rules)

pub returns-in_default-clause-foreign : goal.returns-in_default-clause-foreign
returns-in_default-clause-foreign c = λ no.
    unquoted_not_ours (whole_of c.args.self.now) (packet_model c.args.packet.now) (sym c.quoted_packet.ensures ∙ search rules)

pub returns-in_default-owner-clause-foreign : goal.returns-in_default-owner-clause-foreign
returns-in_default-owner-clause-foreign c = λ no.
    unowned_not_ours (whole_of c.args.self.now) (packet_model c.args.packet.now) c.in-Some.quote (sym c.quoted_packet.ensures ∙ c.in-Some.is)
    (sym c.owner.ensures ∙ search rules)

pub returns-clause-foreign : goal.returns-clause-foreign
returns-clause-foreign c = λ no.
    quoted_not_ours (whole_of c.args.self.now) (packet_model c.args.packet.now) c.in-Some.quote c.in-Some-owner.number c.args.self.now.registered
    (sym c.quoted_packet.ensures ∙ c.in-Some.is) (sym c.owner.ensures ∙ c.in-Some-owner.is)
    (λ g s there stands. c.not_served.ensures.foreign no g s
    (subst (λ (n : ℕ). slice_get c.args.self.now.guests.items n ≡ Some (Some g)) (sym c.from.ensures) there) stands)
