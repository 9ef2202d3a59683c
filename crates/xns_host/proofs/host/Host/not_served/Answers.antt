use Rattle.std.proofs.Common.{◌≡◌, ◌∙◌, refl, rules, arith, subst, sym, false, Some}
use Rattle.xns_spp.specs.Held.{StandsFor}
use Rattle.xns_host.specs.Quotes.{is_sent_by}
use Rattle.xns_host.specs.Went.{GuestUnserved}
use Rattle.xns_host.specs.declared.guest.Guest.{Guest}
use Rattle.xns_host.proofs.Apart.{set_there}
use Rattle.xns_host.proofs.Placed.{turns_at}
use Rattle.xns_host.proofs.Turns.{is_there, one_guest, stays_noted, stays_registered, stays_undone, unserved_stays}
use Rattle.xns_host.proofs.host.Host.not_served.Goals as goal

pub note-requires-clause-others : goal.note-requires-clause-others
note-requires-clause-others c =
    stays_noted c.args.self.now.agenda c.args.self.now.guests.items c.as_slice.result.now c.args.number c.index_mut.result.now c.in-Some.guest c.not_served.new.self
    c.args.self.now.noted c.in-Some.is (unserved_stays c.a_connection_keeps_its_end.ensures c.args.now c.args.quote.now.error _ _ c.not_served.ensures.unserved c.not_served.ensures.goes) (omega arith) (search rules) (search rules)

pub invariant_of-self-2-clause-registered : goal.invariant_of-self-2-clause-registered
invariant_of-self-2-clause-registered c =
    stays_registered c.args.self.now.register c.args.self.now.guests.items c.args.number c.index_mut.result.now c.in-Some.guest c.not_served.new.self
    c.args.self.now.registered c.in-Some.is (unserved_stays c.a_connection_keeps_its_end.ensures c.args.now c.args.quote.now.error _ _ c.not_served.ensures.unserved c.not_served.ensures.goes) (omega arith) (search rules)

pub invariant_of-self-2-clause-not_done : goal.invariant_of-self-2-clause-not_done
invariant_of-self-2-clause-not_done c =
    stays_undone c.args.self.now.guests.items c.args.number c.index_mut.result.now c.in-Some.guest c.not_served.new.self
    c.args.self.now.not_done c.in-Some.is c.not_served.ensures.not_done (omega arith) (search rules)

pub returns-then-not-is_sent_by-clause-foreign : goal.returns-then-not-is_sent_by-clause-foreign
returns-then-not-is_sent_by-clause-foreign c = λ no g s there stands.
    let here = is_there c.args.self.now.guests.items c.args.number c.index_mut.result.now c.in-Some.guest (omega arith) (search rules) c.in-Some.is in
    let same : g ≡ c.in-Some.guest = one_guest c.args.self.now.guests.items c.args.number g c.in-Some.guest there here in
    let not : c.is_sent_by.result ≡ false = search rules in
    subst (λ (x : Guest). is_sent_by x s c.args.quote.now ≡ false) (sym same)
    (sym (c.is_sent_by.ensures s (subst (λ (x : Guest). StandsFor x.connection.conversation.endpoint s) same stands)) ∙ not)

pub returns-clause-turn : goal.returns-clause-turn
returns-clause-turn c = λ yes.
    let here = is_there c.args.self.now.guests.items c.args.number c.index_mut.result.now c.in-Some.guest (omega arith) (search rules) c.in-Some.is in (
      record { guest = c.in-Some.guest; there = here; is = λ s stands. let e = c.is_sent_by.ensures s stands in search rules },
      turns_at (λ (g h : Guest). GuestUnserved c.args.now c.args.quote.now.error g h) c.args.number c.args.self.now.guests.items c.args.self.now.agenda c.args.self.now.agenda
          c.note.new.agenda c.in-Some.guest c.not_served.new.self here c.not_served.ensures.unserved refl (c.note.ensures.is (Some c.not_served.new.self) (set_there c.args.self.now.guests.items c.as_slice.result.now c.args.number (Some c.not_served.new.self) (omega arith) (search rules))),
    )
