use Rattle.std.proofs.Common.{◌<◌, refl, rules, arith, subst, sym, length, slice_get, ℕ, List, Option, Some}
use Rattle.std.specs.Prelude.{slice_set}
use Rattle.std.proofs.lemmas.List.{length-set}
use Rattle.xns_agenda.specs.Agenda.{noted}
use Rattle.xns_host.specs.Hosting.{facts_of}
use Rattle.xns_host.specs.Hosting.{ActsIn}
use Rattle.xns_host.specs.declared.guest.Guest.{Guest}
use Rattle.xns_host.proofs.Apart.{apart_then, set_apart, set_there}
use Rattle.xns_host.proofs.Done.{act_settled}
use Rattle.xns_host.proofs.Placed.{acts_at, no_place, other_place, settled_apart, settled_gone, settled_kept}
use Rattle.xns_host.proofs.Turns.{acted_stays, acted_undone, is_there, one_guest, settled_undone, stays_noted, stays_registered}
use Rattle.xns_host.proofs.host.Host.act.Goals as goal

pub settle_in-requires-clause-others : goal.settle_in-requires-clause-others
settle_in-requires-clause-others c =
    stays_noted c.args.self.now.agenda c.args.self.now.guests.items (slice_set c.args.self.now.guests.items c.args.number (Some c.act.new.self)) c.args.number c.index_mut.result.now c.in-Some.guest c.act.new.self
    c.args.self.now.noted c.in-Some.is (acted_stays c.a_connection_keeps_its_end.ensures c.args.now _ _ c.act.ensures.acts c.act.ensures.goes) (omega arith) (search rules) (search rules)

pub settle_in-requires-clause-registered : goal.settle_in-requires-clause-registered
settle_in-requires-clause-registered c =
    stays_registered c.args.self.now.register c.args.self.now.guests.items c.args.number c.index_mut.result.now c.in-Some.guest c.act.new.self
    c.args.self.now.registered c.in-Some.is (acted_stays c.a_connection_keeps_its_end.ensures c.args.now _ _ c.act.ensures.acts c.act.ensures.goes) (omega arith) (search rules)

pub invariant_of-self-2-clause-not_done : goal.invariant_of-self-2-clause-not_done
invariant_of-self-2-clause-not_done c =
    settled_undone c.args.self.now.guests.items c.settle_in.new.guests.items (noted c.args.self.now.agenda c.args.number (facts_of c.act.new.self)) c.settle_in.new.agenda c.args.number c.index_mut.result.now
    c.in-Some.guest c.act.new.self c.is_done-over.result c.args.self.now.not_done c.in-Some.is (acted_undone c.args.now _ _ c.act.ensures.acts) (omega arith) (search rules)
    c.is_done-over.ensures (c.settle_in.ensures.places (Some c.act.new.self) (set_there c.args.self.now.guests.items (slice_set c.args.self.now.guests.items c.args.number (Some c.act.new.self)) c.args.number (Some c.act.new.self) (omega arith) refl))

pub returns-then-number-len-clause-turn : goal.returns-then-number-len-clause-turn
returns-then-number-len-clause-turn c = λ g at. absurd (no_place c.args.self.now.guests.items c.args.number _ at (omega arith))

pub returns-in_default-clause-turn : goal.returns-in_default-clause-turn
returns-in_default-clause-turn c = λ g at.
    absurd (other_place c.args.self.now.guests.items c.args.number c.index_mut.result.now g (omega arith) (search rules) (search rules) at)

pub returns-in_default-clause-acts : goal.returns-in_default-clause-acts
returns-in_default-clause-acts c = λ more g at.
    absurd (other_place c.args.self.now.guests.items c.args.number c.index_mut.result.now g (omega arith) (search rules) (search rules) at)

pub returns-clause-turn : goal.returns-clause-turn
returns-clause-turn c = λ g at.
    let here = is_there c.args.self.now.guests.items c.args.number c.index_mut.result.now c.in-Some.guest (omega arith) (search rules) c.in-Some.is in
    acts_at c.args.now c.args.number c.args.self.now.guests.items c.settle_in.new.guests.items c.args.self.now.agenda (noted c.args.self.now.agenda c.args.number (facts_of c.act.new.self)) c.settle_in.new.agenda
    c.in-Some.guest c.act.new.self c.is_done-over.result here c.act.ensures.acts refl c.is_done-over.ensures (c.settle_in.ensures.places (Some c.act.new.self) (set_there c.args.self.now.guests.items (slice_set c.args.self.now.guests.items c.args.number (Some c.act.new.self)) c.args.number (Some c.act.new.self) (omega arith) refl))

pub returns-clause-acts : goal.returns-clause-acts
returns-clause-acts c = λ more g at.
    let less : c.args.number < length c.args.self.now.guests.items = omega arith in
    let mid : List (Option Guest) = slice_set c.args.self.now.guests.items c.args.number (Some c.act.new.self) in
    let size : c.args.number < length mid
    = subst (λ (m : ℕ). c.args.number < m) (sym (length-set c.args.self.now.guests.items c.args.number (Some c.act.new.self))) less in
    let here = is_there c.args.self.now.guests.items c.args.number c.index_mut.result.now c.in-Some.guest less (search rules) c.in-Some.is in
    let same = one_guest c.args.self.now.guests.items c.args.number c.in-Some.guest g here at in
    subst (λ (f : Guest). ActsIn c.args.now f.connection (slice_get c.settle_in.new.guests.items c.args.number)) same
    (act_settled mid c.settle_in.new.guests.items c.args.number c.args.now c.in-Some.guest c.act.new.self c.is_done-over.result
    (set_there c.args.self.now.guests.items mid c.args.number (Some c.act.new.self) less refl)
    (record { parts = c.act.ensures.acts.parts; later = c.act.ensures.later more }) c.is_done-over.ensures
    (settled_gone mid c.settle_in.new.guests.items (noted c.args.self.now.agenda c.args.number (facts_of c.act.new.self)) c.settle_in.new.agenda c.args.number c.is_done-over.result (c.settle_in.ensures.places (Some c.act.new.self) (set_there c.args.self.now.guests.items (slice_set c.args.self.now.guests.items c.args.number (Some c.act.new.self)) c.args.number (Some c.act.new.self) (omega arith) refl)) size)
    (settled_kept mid c.settle_in.new.guests.items (noted c.args.self.now.agenda c.args.number (facts_of c.act.new.self)) c.settle_in.new.agenda c.args.number c.is_done-over.result (c.settle_in.ensures.places (Some c.act.new.self) (set_there c.args.self.now.guests.items (slice_set c.args.self.now.guests.items c.args.number (Some c.act.new.self)) c.args.number (Some c.act.new.self) (omega arith) refl))))

pub returns-clause-apart : goal.returns-clause-apart
returns-clause-apart c =
    let mid : List (Option Guest) = slice_set c.args.self.now.guests.items c.args.number (Some c.act.new.self) in
    apart_then c.args.self.now.guests.items mid c.settle_in.new.guests.items c.args.number
    (set_apart c.args.self.now.guests.items mid c.args.number (Some c.act.new.self) refl)
    (settled_apart mid c.settle_in.new.guests.items (noted c.args.self.now.agenda c.args.number (facts_of c.act.new.self)) c.settle_in.new.agenda c.args.number c.is_done-over.result (c.settle_in.ensures.places (Some c.act.new.self) (set_there c.args.self.now.guests.items (slice_set c.args.self.now.guests.items c.args.number (Some c.act.new.self)) c.args.number (Some c.act.new.self) (omega arith) refl)))
