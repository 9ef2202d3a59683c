use Rattle.std.proofs.Common.{◌≡◌, ◌∙◌, ◌<◌, ap, refl, sym, rules, true, List, Option, length, None, slice_get, arith}
use Rattle.std.specs.Prelude.{slice_set}
use Rattle.std.proofs.lemmas.List.{length-set}
use Rattle.std.proofs.lemmas.Option.{slice_get_within}
use Rattle.xns_host.specs.Hosting.{has_guest}
use Rattle.xns_host.specs.Places.{places_with}
use Rattle.xns_host.specs.declared.guest.Guest.{Guest}
use Rattle.xns_host.proofs.Leaving.{forgotten}
use Rattle.xns_host.proofs.Turns.{who}
use Rattle.xns_host.proofs.Undone.{gone_not_done}
use Rattle.xns_host.proofs.host.Host.abandon.Goals as goal

pub forget_in-requires-clause-within : goal.forget_in-requires-clause-within
forget_in-requires-clause-within c =
    let has : has_guest (slice_get c.args.self.now.guests.items c.args.number) ≡ true = search rules in
    slice_get_within c.args.self.now.guests.items c.args.number _ (who (slice_get c.args.self.now.guests.items c.args.number) has).1

pub invariant_of-self : goal.invariant_of-self
invariant_of-self c =
    let has : has_guest (slice_get c.args.self.now.guests.items c.args.number) ≡ true = search rules in
    let less : c.args.number < length c.args.self.now.guests.items
    = slice_get_within c.args.self.now.guests.items c.args.number _ (who (slice_get c.args.self.now.guests.items c.args.number) has).1 in
    let size : length c.forget_in.new.guests.items ≡ length c.args.self.now.guests.items
    = ap (λ (xs : List (Option Guest)). length xs) c.forget_in.ensures.gone ∙ length-set c.args.self.now.guests.items c.args.number None in
    record {
      fit = c.args.self.now.fit;
      sized = size ∙ c.args.self.now.sized ∙ sym c.forget_in.ensures.sized;
      few = omega (arith, size, c.args.self.now.few);
      settled = size ∙ c.args.self.now.settled;
      noted = c.forget_in.ensures.noted;
      registered = forgotten c.args.self.now.register c.forget_in.new.register c.args.self.now.guests.items c.forget_in.new.guests.items c.args.number
          c.args.self.now.registered less c.forget_in.ensures.gone c.forget_in.ensures.left;
      not_done = gone_not_done c.args.self.now.guests.items c.forget_in.new.guests.items c.args.number c.args.self.now.not_done c.forget_in.ensures.gone;
    }

pub returns-clause-gone : goal.returns-clause-gone
returns-clause-gone c =
    let has : has_guest (slice_get c.args.self.now.guests.items c.args.number) ≡ true = search rules in
    record {
      there = who (slice_get c.args.self.now.guests.items c.args.number) has;
      gone = ap (λ (xs : List (Option Guest)). places_with xs c.forget_in.new.agenda) c.forget_in.ensures.gone
          ∙ ap (places_with (slice_set c.args.self.now.guests.items c.args.number None)) c.forget_in.ensures.agenda;
      left = c.forget_in.ensures.left;
      order = c.forget_in.ensures.order;
      unchanged = tt;
      unleft = tt;
      rest = refl;
      clock = refl;
    }
