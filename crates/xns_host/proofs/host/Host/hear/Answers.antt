use Rattle.std.proofs.Common.{◌≡◌, ◌∙◌, ◌++◌, [], refl, rules, arith, subst, sym, false, Some}
use Rattle.xns_spp.specs.Held.{StandsFor}
use Rattle.xns_spp.specs.Packet.{spp_packet_spelling}
use Rattle.xns_host.specs.Went.{GuestHears}
use Rattle.xns_host.specs.declared.guest.Guest.{Guest}
use Rattle.xns_host.proofs.Apart.{set_there}
use Rattle.xns_host.proofs.Placed.{turns_at}
use Rattle.xns_host.proofs.Turns.{heard_stays, heard_undone, is_there, one_guest, stays_noted, stays_registered, stays_undone}
use Rattle.xns_host.proofs.host.Host.hear.Goals as goal

pub note-requires-clause-others : goal.note-requires-clause-others
note-requires-clause-others c =
    let heard = c.receive.ensures.hears (search rules) (spp_packet_spelling c.args.packet.now ++ []) (c.written_packet_is_read_again.ensures.again c.args.packet.now [] c.requires) in
    stays_noted c.args.self.now.agenda c.args.self.now.guests.items c.as_slice.result.now c.args.number c.index_mut.result.now c.in-Some.guest c.receive.new.self
    c.args.self.now.noted c.in-Some.is (heard_stays c.a_step_keeps_its_promises.ensures c.a_connection_keeps_its_end.ensures c.args.now _ c.args.confirms _ _ heard) (omega arith) (search rules) (search rules)

pub invariant_of-self-2-clause-registered : goal.invariant_of-self-2-clause-registered
invariant_of-self-2-clause-registered c =
    let heard = c.receive.ensures.hears (search rules) (spp_packet_spelling c.args.packet.now ++ []) (c.written_packet_is_read_again.ensures.again c.args.packet.now [] c.requires) in
    stays_registered c.args.self.now.register c.args.self.now.guests.items c.args.number c.index_mut.result.now c.in-Some.guest c.receive.new.self
    c.args.self.now.registered c.in-Some.is (heard_stays c.a_step_keeps_its_promises.ensures c.a_connection_keeps_its_end.ensures c.args.now _ c.args.confirms _ _ heard) (omega arith) (search rules)

pub invariant_of-self-2-clause-not_done : goal.invariant_of-self-2-clause-not_done
invariant_of-self-2-clause-not_done c =
    let heard = c.receive.ensures.hears (search rules) (spp_packet_spelling c.args.packet.now ++ []) (c.written_packet_is_read_again.ensures.again c.args.packet.now [] c.requires) in
    stays_undone c.args.self.now.guests.items c.args.number c.index_mut.result.now c.in-Some.guest c.receive.new.self
    c.args.self.now.not_done c.in-Some.is (heard_undone c.args.now _ c.args.confirms _ _ heard) (omega arith) (search rules)

pub returns-then-not-receive-clause-foreign : goal.returns-then-not-receive-clause-foreign
returns-then-not-receive-clause-foreign c = λ no g s there stands.
    let here = is_there c.args.self.now.guests.items c.args.number c.index_mut.result.now c.in-Some.guest (omega arith) (search rules) c.in-Some.is in
    let same : g ≡ c.in-Some.guest = one_guest c.args.self.now.guests.items c.args.number g c.in-Some.guest there here in
    let not : c.receive.result ≡ false = search rules in
    sym (c.receive.ensures.ours s (subst (λ (x : Guest). StandsFor x.connection.conversation.endpoint s) same stands)) ∙ not

pub returns-clause-turn : goal.returns-clause-turn
returns-clause-turn c = λ yes.
    let here = is_there c.args.self.now.guests.items c.args.number c.index_mut.result.now c.in-Some.guest (omega arith) (search rules) c.in-Some.is in (
      record { guest = c.in-Some.guest; there = here; is = λ s stands. let e = c.receive.ensures.ours s stands in search rules },
      λ b read. turns_at (λ (g h : Guest). GuestHears c.args.now b c.args.confirms g h) c.args.number c.args.self.now.guests.items
          c.args.self.now.agenda c.args.self.now.agenda c.note.new.agenda c.in-Some.guest c.receive.new.self here (c.receive.ensures.hears (search rules) b read) refl
          (c.note.ensures.is (Some c.receive.new.self) (set_there c.args.self.now.guests.items c.as_slice.result.now c.args.number (Some c.receive.new.self) (omega arith) (search rules))),
    )
