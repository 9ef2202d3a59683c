use Rattle.std.proofs.Common.{refl, rules, arith, Some}
use Rattle.xns_host.specs.Went.{GuestTagged}
use Rattle.xns_host.proofs.Apart.{set_there}
use Rattle.xns_host.proofs.Placed.{turns_at}
use Rattle.xns_host.proofs.Turns.{is_found, is_there, stays_noted, stays_registered, stays_undone, tagged_stays, tagged_undone}
use Rattle.xns_host.proofs.host.Host.set_tag.Goals as goal

pub note-requires-clause-others : goal.note-requires-clause-others
note-requires-clause-others c =
    stays_noted c.args.self.now.agenda c.args.self.now.guests.items c.as_slice.result.now c.args.number c.index_mut.result.now c.in-Some.guest c.set_tag.new.self
    c.args.self.now.noted c.in-Some.is (tagged_stays c.args.tag _ _ c.set_tag.ensures) (omega arith) (search rules) (search rules)

pub invariant_of-self-2-clause-registered : goal.invariant_of-self-2-clause-registered
invariant_of-self-2-clause-registered c =
    stays_registered c.args.self.now.register c.args.self.now.guests.items c.args.number c.index_mut.result.now c.in-Some.guest c.set_tag.new.self
    c.args.self.now.registered c.in-Some.is (tagged_stays c.args.tag _ _ c.set_tag.ensures) (omega arith) (search rules)

pub invariant_of-self-2-clause-not_done : goal.invariant_of-self-2-clause-not_done
invariant_of-self-2-clause-not_done c =
    stays_undone c.args.self.now.guests.items c.args.number c.index_mut.result.now c.in-Some.guest c.set_tag.new.self
    c.args.self.now.not_done c.in-Some.is (tagged_undone c.args.tag c.in-Some.guest c.set_tag.new.self c.set_tag.ensures) (omega arith) (search rules)

pub returns-clause-none : goal.returns-clause-none
returns-clause-none c = λ none.
    absurd (is_found c.args.self.now.guests.items c.args.number c.index_mut.result.now c.in-Some.guest (omega arith) (search rules) c.in-Some.is none)

pub returns-clause-tags : goal.returns-clause-tags
returns-clause-tags c =
    let here = is_there c.args.self.now.guests.items c.args.number c.index_mut.result.now c.in-Some.guest (omega arith) (search rules) c.in-Some.is in
    record {
      tagged = turns_at (GuestTagged c.args.tag) c.args.number c.args.self.now.guests.items c.args.self.now.agenda c.args.self.now.agenda
          c.note.new.agenda c.in-Some.guest c.set_tag.new.self here c.set_tag.ensures refl
          (c.note.ensures.is (Some c.set_tag.new.self) (set_there c.args.self.now.guests.items c.as_slice.result.now c.args.number (Some c.set_tag.new.self) (omega arith) (search rules)));
      unchanged = tt;
      rest = refl;
      clock = refl;
    }
