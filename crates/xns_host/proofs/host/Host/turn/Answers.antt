use Rattle.std.proofs.Common.{subst, ◌≡◌, refl, rules, arith, Ok}
use Rattle.xns_host.specs.Refusing.{TellsRefusal}
use Rattle.xns_host.specs.Requests.{deed_of, request_fault_of}
use Rattle.xns_host.specs.declared.guest.Guest.{Guest}
use Rattle.xns_host.proofs.Turns.{is_found, is_the_one, stays_noted, stays_registered, stays_undone, step_stays, step_undone, turned}
use Rattle.xns_host.proofs.host.Host.turn.Goals as goal

pub note-requires-clause-others : goal.note-requires-clause-others
note-requires-clause-others c =
    stays_noted c.args.self.now.agenda c.args.self.now.guests.items c.as_slice.result.now c.args.number c.index_mut.result.now c.in-Some.guest c.turn.new.self
    c.args.self.now.noted c.in-Some.is (step_stays c.a_step_keeps_its_promises.ensures c.a_connection_keeps_its_end.ensures c.tell-now.result (deed_of c.args.request) _ _ c.in_ok-turn.ensures.step) (omega arith) (search rules) (search rules)

pub invariant_of-self-2-clause-registered : goal.invariant_of-self-2-clause-registered
invariant_of-self-2-clause-registered c =
    stays_registered c.args.self.now.register c.args.self.now.guests.items c.args.number c.index_mut.result.now c.in-Some.guest c.turn.new.self
    c.args.self.now.registered c.in-Some.is (step_stays c.a_step_keeps_its_promises.ensures c.a_connection_keeps_its_end.ensures c.tell-now.result (deed_of c.args.request) _ _ c.in_ok-turn.ensures.step) (omega arith) (search rules)

pub invariant_of-self-2-clause-not_done : goal.invariant_of-self-2-clause-not_done
invariant_of-self-2-clause-not_done c =
    stays_undone c.args.self.now.guests.items c.args.number c.index_mut.result.now c.in-Some.guest c.turn.new.self
    c.args.self.now.not_done c.in-Some.is (step_undone c.tell-now.result (deed_of c.args.request) _ _ c.in_ok-turn.ensures.step.step) (omega arith) (search rules)

pub returns-clause-none : goal.returns-clause-none
returns-clause-none c = λ none.
    absurd (is_found c.args.self.now.guests.items c.args.number c.index_mut.result.now c.in-Some.guest (omega arith) (search rules) c.in-Some.is none)

pub returns-clause-turn : goal.returns-clause-turn
returns-clause-turn c =
    turned c.args.now c.args.number c.tell-now.result (deed_of c.args.request) c.args.self.now _ c.index_mut.result.now c.in-Some.guest c.turn.new.self c.tell-now.ensures.result (omega arith) (search rules) c.in-Some.is
    c.in_ok-turn.ensures.step refl (λ place there. c.note.ensures.is place (search rules)) refl c.tell-now.ensures.told

pub returns-clause-refused : goal.returns-clause-refused
returns-clause-refused c = λ g there.
    let same : c.in-Some.guest ≡ g = is_the_one c.args.self.now.guests.items c.args.number c.index_mut.result.now c.in-Some.guest g (omega arith) (search rules) c.in-Some.is there in
    subst (λ (x : Guest). TellsRefusal (request_fault_of x.connection.conversation c.args.request) (Ok tt)) same c.in_ok-turn.ensures.refused
