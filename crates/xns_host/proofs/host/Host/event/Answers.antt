use Rattle.std.proofs.Common.{◌≡◌, ◌∙◌, ap, refl, rules, subst, sym, ℕ, Option, None, Some}
use Rattle.std.specs.Prelude.{slice_set}
use Rattle.xns_agenda.specs.Agenda.{noted}
use Rattle.xns_host.specs.Hosting.{facts_of}
use Rattle.xns_host.specs.Events.{event_in}
use Rattle.xns_host.specs.Places.{AsksEvent, places_with}
use Rattle.xns_host.specs.declared.guest.Guest.{Guest}
use Rattle.xns_host.proofs.Noting.{passed_but}
use Rattle.xns_host.proofs.Apart.{set_there}
use Rattle.xns_host.proofs.Placed.{asked_quiet, asked_tells}
use Rattle.xns_host.proofs.Passing.{none_told}
use Rattle.xns_host.proofs.Turns.{is_there, settled_undone, stays_noted, stays_registered, told_stays, told_undone}
use Rattle.xns_host.proofs.host.Host.event.Goals as goal

pub settle_in-requires-clause-others : goal.settle_in-requires-clause-others
settle_in-requires-clause-others c =
    rw c.pass_event.ensures.passed (passed_but c.args.self.now.agenda (slice_set c.args.self.now.guests.items c.args.number (Some c.tell.new.self)) c.args.number
    (stays_noted c.args.self.now.agenda c.args.self.now.guests.items (slice_set c.args.self.now.guests.items c.args.number (Some c.tell.new.self)) c.args.number c.index_mut.result.now c.in-Some.guest c.tell.new.self
    c.args.self.now.noted c.in-Some.is (told_stays c.a_message_is_handed_as_by_a_step.ensures c.a_connection_keeps_its_end.ensures c.latest-now.result _ _ (c.tell.ensures.tells (search rules)))
    c.requires (search rules) (search rules)))

pub settle_in-requires-clause-registered : goal.settle_in-requires-clause-registered
settle_in-requires-clause-registered c =
    stays_registered c.args.self.now.register c.args.self.now.guests.items c.args.number c.index_mut.result.now c.in-Some.guest c.tell.new.self
    c.args.self.now.registered c.in-Some.is (told_stays c.a_message_is_handed_as_by_a_step.ensures c.a_connection_keeps_its_end.ensures c.latest-now.result _ _ (c.tell.ensures.tells (search rules)))
    c.requires (search rules)

pub invariant_of-self-2-clause-not_done : goal.invariant_of-self-2-clause-not_done
invariant_of-self-2-clause-not_done c =
    settled_undone c.args.self.now.guests.items c.settle_in.new.guests.items (noted c.pass_event.new.self c.args.number (facts_of c.tell.new.self)) c.settle_in.new.agenda c.args.number c.index_mut.result.now
    c.in-Some.guest c.tell.new.self c.is_done-done.result c.args.self.now.not_done c.in-Some.is
    (told_undone c.a_message_is_handed_as_by_a_step.ensures c.latest-now.result c.args.number _ _ c.in_ok-event.event
    (sym c.tell.ensures.event ∙ c.in_ok-event.was) (c.tell.ensures.tells (search rules))) c.requires (search rules)
    c.is_done-done.ensures (c.settle_in.ensures.places (Some c.tell.new.self) (set_there c.args.self.now.guests.items (slice_set c.args.self.now.guests.items c.args.number (Some c.tell.new.self)) c.args.number (Some c.tell.new.self) c.requires refl))

pub returns-clause-asks : goal.returns-clause-asks
returns-clause-asks c =
    let here = is_there c.args.self.now.guests.items c.args.number c.index_mut.result.now c.in-Some.guest c.requires (search rules) c.in-Some.is in
    subst (λ (t : ℕ). AsksEvent t c.args.number (places_with c.args.self.now.guests.items c.args.self.now.agenda) (Some c.in_ok-event.event)
    (places_with c.settle_in.new.guests.items c.settle_in.new.agenda)) c.latest-now.ensures
    (asked_tells c.latest-now.result c.args.number c.args.self.now.guests.items c.settle_in.new.guests.items c.args.self.now.agenda c.pass_event.new.self
    (noted c.pass_event.new.self c.args.number (facts_of c.tell.new.self)) c.settle_in.new.agenda c.in-Some.guest c.tell.new.self c.in_ok-event.event c.is_done-done.result here
    (sym c.tell.ensures.event ∙ c.in_ok-event.was) (c.tell.ensures.tells (search rules)) c.pass_event.ensures.passed refl
    c.is_done-done.ensures (c.settle_in.ensures.places (Some c.tell.new.self) (set_there c.args.self.now.guests.items (slice_set c.args.self.now.guests.items c.args.number (Some c.tell.new.self)) c.args.number (Some c.tell.new.self) c.requires refl)))

-- where there is nothing to tell

pub invariant_of-self : goal.invariant_of-self
invariant_of-self c =
    let none : c.index_mut.result.now ≡ None = search rules in
    let kept = none_told c.args.self.now c.pass_event.new.self c.args.number c.index_mut.result.now c.index_mut.result.now
    c.pass_event.ensures.passed c.pass_event.ensures.room c.requires (search rules) refl (ap (λ (p : Option Guest). event_in c.args.number p) none) in
    record { fit = c.args.self.now.fit; sized = kept.sized; few = kept.few; settled = kept.settled; noted = kept.noted; registered = kept.registered; not_done = kept.not_done }

pub returns-in_default-clause-asks : goal.returns-in_default-clause-asks
returns-in_default-clause-asks c =
    let none : c.index_mut.result.now ≡ None = search rules in
    asked_quiet c.args.self.now.clock.latest c.args.number c.args.self.now.guests.items c.args.self.now.agenda c.pass_event.new.self c.index_mut.result.now
    c.index_mut.result.now None refl c.requires (search rules) refl (ap (λ (p : Option Guest). event_in c.args.number p) none) c.pass_event.ensures.passed

pub invariant_of-self-in-Break-1 : goal.invariant_of-self-in-Break-1
invariant_of-self-in-Break-1 c =
    let none : c.tell.result ≡ None = search rules in
    let same : Some c.tell.new.self ≡ c.index_mut.result.now = ap Some (c.tell.ensures.none none) ∙ sym c.in-Some.is in
    let kept = none_told c.args.self.now c.pass_event.new.self c.args.number c.index_mut.result.now (Some c.tell.new.self)
    c.pass_event.ensures.passed c.pass_event.ensures.room c.requires (search rules) same
    (ap (λ (p : Option Guest). event_in c.args.number p) c.in-Some.is ∙ (sym c.tell.ensures.event ∙ none)) in
    record { fit = c.args.self.now.fit; sized = kept.sized; few = kept.few; settled = kept.settled; noted = kept.noted; registered = kept.registered; not_done = kept.not_done }

pub returns-in_err-event-clause-asks : goal.returns-in_err-event-clause-asks
returns-in_err-event-clause-asks c =
    let none : c.tell.result ≡ None = search rules in
    let same : Some c.tell.new.self ≡ c.index_mut.result.now = ap Some (c.tell.ensures.none none) ∙ sym c.in-Some.is in
    asked_quiet c.args.self.now.clock.latest c.args.number c.args.self.now.guests.items c.args.self.now.agenda c.pass_event.new.self c.index_mut.result.now
    (Some c.tell.new.self) c.from_residual.result (search rules) c.requires (search rules) same
    (ap (λ (p : Option Guest). event_in c.args.number p) c.in-Some.is ∙ (sym c.tell.ensures.event ∙ none)) c.pass_event.ensures.passed
