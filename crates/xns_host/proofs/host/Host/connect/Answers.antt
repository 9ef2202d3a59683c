use Rattle.std.proofs.Common.{◌≡◌, ◌<◌, ◌∙◌, inl, inr, arith, refl, rules, subst, sym, ℕ, true, Option, None}
use Rattle.xns_idp.specs.declared.address.Address.{Address}
use Rattle.xns_spp.specs.State.{initiator_state}
use Rattle.xns_agenda.specs.Agenda.{HasNoNumber}
use Rattle.xns_host.specs.Registered.{HasRegistered}
use Rattle.xns_host.specs.Seating.{new_guest}
use Rattle.xns_host.specs.declared.guest.Guest.{Guest}
use Rattle.xns_host.specs.Hosting.{IsPlaceForNew, address_in}
use Rattle.xns_connection.specs.Ends.{peer_that_opened}
use Rattle.xns_host.specs.Identifiers.{IsNextIdentifier}
use Rattle.xns_host.specs.Knowing.{opener_to}
use Rattle.xns_host.specs.declared.peer.Peer.{Peer}
use Rattle.xns_host.specs.Settings.{IsMadeBy}
use Rattle.xns_connection.specs.Story.{new_story}
use Rattle.xns_connection.specs.Telling.{Tells}
use Rattle.xns_host.proofs.OnTerms.{made_on, on_terms}
use Rattle.xns_host.proofs.Waking.{all_in_use, gets_place, no_room, not_both}
use Rattle.xns_host.proofs.Ends.{end_opened, end_opener, has_story, told_id}
use Rattle.xns_host.proofs.Joining.{OpenedBy, all_joined, joined, joined_as, opened_by_none, turned_over}
use Rattle.xns_host.proofs.Undone.{not_done_new}
use Rattle.xns_host.proofs.Turns.{came_undone}
use Rattle.xns_host.specs.Places.{places_with}
use Rattle.xns_host.proofs.Placed.{taken_as, taken_same, taken_there}
use Rattle.xns_host.proofs.host.Host.connect.Goals as goal

pub put_in-requires-clause-registered : goal.put_in-requires-clause-registered
put_in-requires-clause-registered c =
    subst (λ (g : Guest). HasRegistered c.take.new.self c.args.self.now.guests.items c.in-Some-place.number g) (sym c.new.ensures)
    (let has = joined c.args.self.now.register c.take.new.self _ c.in-Some-next.id c.take.result c.in-Some-next.ensures.next
    c.take.ensures.given c.take.ensures.some c.take.ensures.owner c.take.ensures.peers in
    let id = told_id c.in-Ok.connection.conversation _ c.in-Ok.ensures.tells in
    let named = joined_as id has in
    let none : opener_to c.in-Ok.connection.conversation.endpoint.ends.own.socket (peer_that_opened c.in-Ok.connection) ≡ None
    = end_opened c.in-Ok.connection _ c.in-Ok.ensures.tells.stands in
    all_joined c.args.self.now.register c.take.new.self c.args.self.now.guests.items _ _ c.args.self.now.registered named
    (λ o opened. let some = sym none ∙ opened in absurd (cc))
    (subst (λ (p : Option Peer). OpenedBy c.args.self.now.register c.take.new.self p) (sym none)
    (opened_by_none c.args.self.now.register c.take.new.self c.take.ensures.peers))
    (record {
      story = ∣ has_story _ _ c.in-Ok.ensures.tells ∣₁;
      known = subst (λ (i : ℕ). 0 < i) id c.in-Some-next.ensures.known;
      own = named.own;
      opener = λ o opened. let some = sym none ∙ opened in absurd (cc);
    }))

pub returns-in_default-place-clause-room : goal.returns-in_default-place-clause-room
returns-in_default-place-clause-room c = λ right z.
    let none : HasNoNumber c.args.self.now.agenda.free c.args.self.now.agenda.closed c.args.self.now.agenda.strangers = search rules in
    inl (no_room c.args.self.now.agenda c.args.self.now.guests.items c.args.self.now.noted none)

pub returns-in_default-next-clause-room : goal.returns-in_default-next-clause-room
returns-in_default-next-clause-room c = λ right z.
    let none : c.next.result ≡ None = search rules in
    inr (all_in_use c.args.self.now.register.identifiers.owners c.args.self.now.register.identifiers.ahead c.next.result c.next.ensures.given none)

pub returns-in_default-calling-clause-full : goal.returns-in_default-calling-clause-full
returns-in_default-calling-clause-full c = λ right none.
    let place : IsPlaceForNew c.args.self.now.guests.items c.in-Some-place.number
    = gets_place c.args.self.now.agenda c.args.self.now.guests.items c.args.self.now.noted c.place.ensures.room c.args.self.now.sized
    (c.place.ensures.some c.in-Some-place.number c.in-Some-place.is) in
    absurd (not_both c.args.self.now.guests.items none place)

pub returns-clause-full : goal.returns-clause-full
returns-clause-full c = λ right none.
    let place : IsPlaceForNew c.args.self.now.guests.items c.in-Some-place.number
    = gets_place c.args.self.now.agenda c.args.self.now.guests.items c.args.self.now.noted c.place.ensures.room c.args.self.now.sized
    (c.place.ensures.some c.in-Some-place.number c.in-Some-place.is) in
    absurd (not_both c.args.self.now.guests.items none place)

pub invariant_of-self-2-clause-not_done : goal.invariant_of-self-2-clause-not_done
invariant_of-self-2-clause-not_done c =
    came_undone c.args.self.now.guests.items c.put_in.new.guests.items c.args.self.now.agenda c.put_in.new.agenda c.in-Some-place.number c.new.result _ c.args.self.now.not_done c.new.ensures
    c.put_in.ensures.places (omega (arith, c.in-Some-place.ensures.within, c.args.self.now.sized)) (not_done_new c.in-Ok.connection c.in-Ok.ensures.made.untold)

pub returns-clause-connects : goal.returns-clause-connects
returns-clause-connects c =
    let guest : Guest = new_guest c.in-Ok.connection c.args.via c.args.peer c.args.self.now.settings.tells_opened in
    let taken = taken_same c.in-Some-place.number c.new.result guest (places_with c.put_in.new.guests.items c.put_in.new.agenda) (places_with c.args.self.now.guests.items c.args.self.now.agenda) c.new.ensures c.put_in.ensures.places in
    let there = taken_there c.args.self.now.guests.items c.put_in.new.guests.items c.args.self.now.agenda c.put_in.new.agenda c.in-Some-place.number guest taken (omega (arith, c.in-Some-place.ensures.within, c.args.self.now.sized)) in
    record {
      connected = record {
        guest = guest;
        there = there;
        next = subst (λ (i : ℕ). IsNextIdentifier c.args.self.now.register.identifiers i) (told_id c.in-Ok.connection.conversation _ c.in-Ok.ensures.tells)
            c.in-Some-next.ensures.next;
        tells = subst (λ (i : ℕ). Tells c.in-Ok.connection.conversation (new_story None (initiator_state
            (address_in c.args.self.now.network c.args.self.now.host c.args.socket) i c.args.peer c.args.self.now.settings.window c.args.self.now.settings.backlog)))
            (told_id c.in-Ok.connection.conversation _ c.in-Ok.ensures.tells)
            (on_terms c.args.self.now.settings c.terms-terms.result c.terms-terms.ensures (λ window backlog. Tells c.in-Ok.connection.conversation
            (new_story None (initiator_state (address_in c.args.self.now.network c.args.self.now.host c.args.socket) c.in-Some-next.id c.args.peer window backlog)))
            (subst (λ (own : Address). Tells c.in-Ok.connection.conversation
            (new_story None (initiator_state own c.in-Some-next.id c.args.peer c.terms-terms.result.window c.terms-terms.result.backlog)))
            c.address-own.ensures c.in-Ok.ensures.tells));
        made = subst (λ (t : ℕ). IsMadeBy c.args.self.now.settings t true c.in-Ok.connection) c.tell-now.ensures.result
            (made_on c.args.self.now.settings c.terms-terms.result c.terms-terms.ensures c.tell-now.result true c.in-Ok.connection c.in-Ok.ensures.made);
        via = refl;
        peer = refl;
        opener = end_opener c.in-Ok.connection _ c.in-Ok.ensures.tells.stands;
        confirmed = refl;
        heard_of = refl;
        opening = refl;
        tag = refl;
      };
      place = gets_place c.args.self.now.agenda c.args.self.now.guests.items c.args.self.now.noted c.place.ensures.room c.args.self.now.sized
          (c.place.ensures.some c.in-Some-place.number c.in-Some-place.is);
      places = λ g at. taken_as c.put_in.new.guests.items c.in-Some-place.number guest g (places_with c.put_in.new.guests.items c.put_in.new.agenda) (places_with c.args.self.now.guests.items c.args.self.now.agenda) there at taken;
      turned = turned_over c.args.self.now.register.identifiers c.take.new.self.identifiers c.put_in.new.register.identifiers _ c.in-Some-next.id c.take.result
          c.in-Some-next.ensures.next c.take.ensures.given c.take.ensures.some c.put_in.ensures.order;
      caller = record { callers = c.note_caller.ensures.callers; programs = c.note_caller.ensures.programs };
      unchanged = tt;
      order = tt;
      no_caller = tt;
      rest = refl;
      clock = search rules;
    }
