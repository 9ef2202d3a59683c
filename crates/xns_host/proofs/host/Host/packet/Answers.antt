use Rattle.std.proofs.Common.{◌≡◌, ◌∙◌, ap, rules, sym, false, Bool, Some}
use Rattle.xns_agenda.specs.Agenda.{Plan}
use Rattle.xns_agenda.specs.Turns.{with_turn}
use Rattle.xns_host.specs.Went.{GuestGives}
use Rattle.xns_host.specs.declared.guest.Guest.{Guest}
use Rattle.xns_host.proofs.Noting.{rested_but}
use Rattle.xns_host.proofs.Apart.{set_there}
use Rattle.xns_host.proofs.Placed.{given_fault, other_place, rested_so, turns_at, who_packs}
use Rattle.xns_host.proofs.Turns.{gave_stays, gave_undone, is_there, stays_noted, stays_registered, stays_undone}
use Rattle.xns_host.proofs.host.Host.packet.Goals as goal

pub note-requires-clause-others : goal.note-requires-clause-others
note-requires-clause-others c =
    rw c.pass_packet.ensures.passed (rested_but c.args.self.now.agenda c.as_slice.result.now c.args.number
    (stays_noted c.args.self.now.agenda c.args.self.now.guests.items c.as_slice.result.now c.args.number c.index_mut.result.now c.in-Some.guest c.next_packet-made.new.self
    c.args.self.now.noted c.in-Some.is (gave_stays c.a_connection_gives_what_it_made.ensures c.a_connection_keeps_its_end.ensures c.args.now c.next_packet-made.result _ _ c.next_packet-made.ensures)
    c.requires.within (search rules) (search rules)))

pub invariant_of-self-2-clause-registered : goal.invariant_of-self-2-clause-registered
invariant_of-self-2-clause-registered c =
    stays_registered c.args.self.now.register c.args.self.now.guests.items c.args.number c.index_mut.result.now c.in-Some.guest c.next_packet-made.new.self
    c.args.self.now.registered c.in-Some.is (gave_stays c.a_connection_gives_what_it_made.ensures c.a_connection_keeps_its_end.ensures c.args.now c.next_packet-made.result _ _ c.next_packet-made.ensures)
    c.requires.within (search rules)

pub invariant_of-self-2-clause-not_done : goal.invariant_of-self-2-clause-not_done
invariant_of-self-2-clause-not_done c =
    stays_undone c.args.self.now.guests.items c.args.number c.index_mut.result.now c.in-Some.guest c.next_packet-made.new.self
    c.args.self.now.not_done c.in-Some.is (gave_undone c.args.now c.next_packet-made.result _ _ c.next_packet-made.ensures) c.requires.within (search rules)

pub returns-clause-rested : goal.returns-clause-rested
returns-clause-rested c = λ none.
    let quiet : c.next_packet-made.new.self.connection.owed.fresh ≡ false
    = rested_so c.in-Some.guest.via _ c.next_packet-made.ensures.answer (sym none ∙ c.next_packet-made.ensures.is) in
    c.note.ensures.packets (Some c.next_packet-made.new.self) (set_there c.args.self.now.guests.items c.as_slice.result.now c.args.number (Some c.next_packet-made.new.self) c.requires.within (search rules)) ∙ ap (λ (b : Bool). with_turn c.pass_packet.new.self.packets c.args.number b) quiet
    ∙ ap (λ (a : Plan). with_turn a.packets c.args.number false) c.pass_packet.ensures.passed

pub returns-clause-fault : goal.returns-clause-fault
returns-clause-fault c = given_fault c.in-Some.guest.via _ c.next_packet-made.ensures.answer c.next_packet-made.result c.next_packet-made.ensures.is

pub returns-clause-asks : goal.returns-clause-asks
returns-clause-asks c =
    let here = is_there c.args.self.now.guests.items c.args.number c.index_mut.result.now c.in-Some.guest c.requires.within (search rules) c.in-Some.is in
    turns_at (λ (g h : Guest). GuestGives c.args.now c.next_packet-made.result g h) c.args.number c.args.self.now.guests.items _ c.pass_packet.new.self
    c.note.new.agenda c.in-Some.guest c.next_packet-made.new.self here c.next_packet-made.ensures c.pass_packet.ensures.passed (c.note.ensures.is (Some c.next_packet-made.new.self) (set_there c.args.self.now.guests.items c.as_slice.result.now c.args.number (Some c.next_packet-made.new.self) c.requires.within (search rules)))

-- a place without a connection has no turn

pub invariant_of-self : goal.invariant_of-self
invariant_of-self c =
    let who = who_packs c.args.self.now.agenda c.args.self.now.guests.items c.args.number c.args.self.now.noted c.requires.within c.requires.turn in
    absurd (other_place c.args.self.now.guests.items c.args.number c.index_mut.result.now who.0 c.requires.within (search rules) (search rules) who.1)

pub returns-in_default-clause-asks : goal.returns-in_default-clause-asks
returns-in_default-clause-asks c =
    let who = who_packs c.args.self.now.agenda c.args.self.now.guests.items c.args.number c.args.self.now.noted c.requires.within c.requires.turn in
    absurd (other_place c.args.self.now.guests.items c.args.number c.index_mut.result.now who.0 c.requires.within (search rules) (search rules) who.1)

pub returns-in_default-clause-rested : goal.returns-in_default-clause-rested
returns-in_default-clause-rested c = λ none.
    let who = who_packs c.args.self.now.agenda c.args.self.now.guests.items c.args.number c.args.self.now.noted c.requires.within c.requires.turn in
    absurd (other_place c.args.self.now.guests.items c.args.number c.index_mut.result.now who.0 c.requires.within (search rules) (search rules) who.1)
