use Rattle.xns_host.proofs.Placed.{taken_same, taken_there}
use Rattle.std.proofs.Common.{◌≡◌, ◌<◌, ◌∙◌, ap, arith, inl, inr, refl, rules, subst, sym, ℕ, Option, None, Some, false}
use Rattle.std.proofs.lemmas.Option.{same_Some}
use Rattle.std.specs.BTreeMap.{BTreeMap, IsUnchanged, Updates, get}
use Rattle.xns_idp.specs.declared.address.Address.{Address}
use Rattle.xns_spp.specs.State.{responder_state}
use Rattle.xns_host.specs.Registered.{HasRegistered}
use Rattle.xns_host.specs.Seating.{new_guest}
use Rattle.xns_host.specs.declared.guest.Guest.{Guest}
use Rattle.xns_host.specs.Hosting.{address_in}
use Rattle.xns_host.specs.Register.{peer_at, peer_cmp}
use Rattle.xns_connection.specs.Story.{new_story}
use Rattle.xns_connection.specs.Telling.{Tells}
use Rattle.xns_host.specs.declared.peer.Peer.{Peer}
use Rattle.xns_host.proofs.OnTerms.{made_on, on_terms}
use Rattle.xns_agenda.specs.Agenda.{HasNoNumber}
use Rattle.xns_host.specs.Coming.{Seats}
use Rattle.xns_host.specs.Places.{places_with}
use Rattle.xns_host.specs.Turn.{whole_of}
use Rattle.xns_host.proofs.Waking.{all_in_use, gets_place, no_room}
use Rattle.xns_host.proofs.Ends.{end_opened, has_story, told_id}
use Rattle.xns_host.proofs.Joining.{OpenedBy, all_joined, joined_as, joined_opened, opened_by, turned_over, unentered}
use Rattle.xns_host.proofs.Undone.{not_done_new}
use Rattle.xns_host.proofs.Turns.{came_undone}
use Rattle.xns_connection.specs.Ends.{peer_that_opened}
use Rattle.xns_host.specs.Knowing.{opener_to}
use Rattle.xns_host.specs.Identifiers.{Ids, IsNextIdentifier, TurnsOver}
use Rattle.xns_host.proofs.host.Host.open.Goals as goal

pub invariant_of-self : goal.invariant_of-self
invariant_of-self c =
    let unchanged : IsUnchanged c.args.self.now.register.peers c.enter.new.self.peers = search rules in
    record {
      fit = c.args.self.now.fit;
      sized = c.args.self.now.sized;
      few = c.args.self.now.few;
      settled = c.args.self.now.settled;
      noted = c.args.self.now.noted;
      registered = unentered c.args.self.now.register c.enter.new.self c.args.self.now.guests.items c.enter.ensures.identifiers unchanged
          c.args.self.now.registered;
      not_done = c.args.self.now.not_done;
    }

pub put_in-requires-clause-registered : goal.put_in-requires-clause-registered
put_in-requires-clause-registered c =
    subst (λ (g : Guest). HasRegistered c.take.new.self c.args.self.now.guests.items c.in-Some.number g) (sym c.new.ensures)
    (let entered : Updates peer_cmp c.args.self.now.register.peers c.enter.new.self.peers c.args.opener (Some c.in-Some.number) = search rules in
    let has = joined_opened c.args.self.now.register c.enter.new.self c.take.new.self _ c.in-Some-next.id c.args.opener c.take.result
    c.enter.ensures.identifiers entered c.requires.unknown c.in-Some-next.ensures.next c.take.ensures.given c.take.ensures.some c.take.ensures.owner
    c.take.ensures.peers in
    let id = told_id c.in-Ok.connection.conversation _ c.in-Ok.ensures.tells in
    let named = joined_as id has in
    let is : opener_to c.in-Ok.connection.conversation.endpoint.ends.own.socket (peer_that_opened c.in-Ok.connection) ≡ Some c.args.opener
    = end_opened c.in-Ok.connection _ c.in-Ok.ensures.tells.stands
    ∙ ap Some (sym (c.requires.opener ∙ ap (λ (own : Address). peer_at c.args.peer c.args.peer_id own.socket) (sym c.address-own.ensures))) in
    all_joined c.args.self.now.register c.take.new.self c.args.self.now.guests.items _ _ c.args.self.now.registered named
    (λ o opened. let same : c.args.opener ≡ o = same_Some c.args.opener o (sym is ∙ opened) in ap (λ (p : Peer). get peer_cmp c.args.self.now.register.peers p) (sym same) ∙ c.requires.unknown)
    (subst (λ (p : Option Peer). OpenedBy c.args.self.now.register c.take.new.self p) (sym is)
    (opened_by c.args.self.now.register c.enter.new.self c.take.new.self c.in-Some.number c.args.opener entered c.take.ensures.peers))
    (record {
      story = ∣ has_story _ _ c.in-Ok.ensures.tells ∣₁;
      known = subst (λ (i : ℕ). 0 < i) id c.in-Some-next.ensures.known;
      own = named.own;
      opener = λ o opened.
          let same : c.args.opener ≡ o = same_Some c.args.opener o (sym is ∙ opened) in
          ap (λ (m : BTreeMap Peer ℕ). get peer_cmp m o) c.take.ensures.peers ∙ ap (λ (p : Peer). get peer_cmp c.enter.new.self.peers p) (sym same)
          ∙ entered.1;
    }))

pub invariant_of-self-2-clause-not_done : goal.invariant_of-self-2-clause-not_done
invariant_of-self-2-clause-not_done c =
    came_undone c.args.self.now.guests.items c.put_in.new.guests.items c.args.self.now.agenda c.put_in.new.agenda c.in-Some.number c.new.result _ c.args.self.now.not_done c.new.ensures
    c.put_in.ensures.places (omega (arith, c.in-Some.ensures.within, c.args.self.now.sized)) (not_done_new c.in-Ok.connection c.in-Ok.ensures.made.untold)

pub returns-clause-opened : goal.returns-clause-opened
returns-clause-opened c = λ n made.
    let one : c.in-Some.number ≡ n = cc in
    let guest : Guest = new_guest c.in-Ok.connection c.args.via c.args.peer false in
    let taken = taken_same c.in-Some.number c.new.result guest (places_with c.put_in.new.guests.items c.put_in.new.agenda) (places_with c.args.self.now.guests.items c.args.self.now.agenda) c.new.ensures c.put_in.ensures.places in
    let there = taken_there c.args.self.now.guests.items c.put_in.new.guests.items c.args.self.now.agenda c.put_in.new.agenda c.in-Some.number guest taken (omega (arith, c.in-Some.ensures.within, c.args.self.now.sized)) in
    let t = subst (λ (a : Ids). (i : ℕ) × TurnsOver a c.put_in.new.register.identifiers i) c.enter.ensures.identifiers
    (turned_over c.enter.new.self.identifiers c.take.new.self.identifiers c.put_in.new.register.identifiers _ c.in-Some-next.id c.take.result
    (subst (λ (a : Ids). IsNextIdentifier a c.in-Some-next.id) (sym c.enter.ensures.identifiers) c.in-Some-next.ensures.next) c.take.ensures.given c.take.ensures.some
    c.put_in.ensures.order) in
    subst (λ (m : ℕ). Seats c.args.now c.args.via (whole_of c.args.self.now) c.args.socket c.args.peer c.args.peer_id c.args.programs.items m c.put_in.new.register
    (places_with c.put_in.new.guests.items c.put_in.new.agenda)) one
    (record {
      guest = guest;
      place = gets_place c.args.self.now.agenda c.args.self.now.guests.items c.args.self.now.noted c.place.ensures.room c.args.self.now.sized
          (c.place.ensures.some c.in-Some.number c.in-Some.is);
      answering = record {
        next = subst (λ (i : ℕ). IsNextIdentifier c.args.self.now.register.identifiers i) (told_id c.in-Ok.connection.conversation _ c.in-Ok.ensures.tells)
            c.in-Some-next.ensures.next;
        tells = subst (λ (i : ℕ). Tells c.in-Ok.connection.conversation (new_story (Some c.args.programs.items) (responder_state
            (address_in c.args.self.now.network c.args.self.now.host c.args.socket) i c.args.peer c.args.peer_id c.args.self.now.settings.window
            c.args.self.now.settings.backlog)))
            (told_id c.in-Ok.connection.conversation _ c.in-Ok.ensures.tells)
            (on_terms c.args.self.now.settings c.terms-terms.result c.terms-terms.ensures (λ window backlog. Tells c.in-Ok.connection.conversation
            (new_story (Some c.args.programs.items) (responder_state (address_in c.args.self.now.network c.args.self.now.host c.args.socket)
            c.in-Some-next.id c.args.peer c.args.peer_id window backlog)))
            (subst (λ (own : Address). Tells c.in-Ok.connection.conversation (new_story (Some c.args.programs.items)
            (responder_state own c.in-Some-next.id c.args.peer c.args.peer_id c.terms-terms.result.window c.terms-terms.result.backlog)))
            c.address-own.ensures c.in-Ok.ensures.tells));
        made = made_on c.args.self.now.settings c.terms-terms.result c.terms-terms.ensures c.args.now false c.in-Ok.connection c.in-Ok.ensures.made;
        via = refl;
        peer = refl;
        known_by = end_opened c.in-Ok.connection _ c.in-Ok.ensures.tells.stands
            ∙ ap (λ (own : Address). Some (peer_at c.args.peer c.args.peer_id own.socket)) c.address-own.ensures;
        confirmed = refl;
        heard_of = refl;
        opening = refl;
        tag = refl;
      };
      there = there;
      is = taken;
      identifier = t.0;
      turned = t.1;
    })

pub returns-in_default-clause-full : goal.returns-in_default-clause-full
returns-in_default-clause-full c = λ z.
    let none : HasNoNumber c.args.self.now.agenda.free c.args.self.now.agenda.closed c.args.self.now.agenda.strangers = search rules in
    inl (no_room c.args.self.now.agenda c.args.self.now.guests.items c.args.self.now.noted none)

pub returns-in_default-next-clause-full : goal.returns-in_default-next-clause-full
returns-in_default-next-clause-full c = λ z.
    let none : c.next.result ≡ None = search rules in
    inr (all_in_use c.args.self.now.register.identifiers.owners c.args.self.now.register.identifiers.ahead c.next.result c.next.ensures.given none)

pub returns-clause-unopened : goal.returns-clause-unopened
returns-clause-unopened c = λ never. absurd (never c.in-Some.number refl)
