use Rattle.std.proofs.Common.{◌∙◌, ap, List, Option, Some, None, length, slice_set, false}
use Rattle.std.proofs.lemmas.List.{length-set}
use Rattle.xns_agenda.specs.Agenda.{Plan, noted}
use Rattle.xns_agenda.specs.Turns.{with_turn}
use Rattle.xns_host.specs.Hosting.{facts_of}
use Rattle.xns_host.specs.Places.{places_with}
use Rattle.xns_host.specs.declared.guest.Guest.{Guest}
use Rattle.xns_host.proofs.Leaving.{seated}
use Rattle.xns_host.proofs.slots.put_in.Goals as goal

pub returns : goal.returns
returns c =
    let row = c.args.guests.now.items in
    let number = c.args.number in
    let items = c.fill.ensures.there ∙ ap (λ (xs : List (Option Guest)). slice_set xs number (Some c.args.guest)) c.forget_in.ensures.gone in
    let plan = c.fill.ensures.agenda
    ∙ ap (λ (a : Plan). noted (record a { free = with_turn a.free number false }) number (facts_of c.args.guest)) c.forget_in.ensures.agenda in
    record {
      noted = c.fill.ensures.noted;
      sized = c.fill.ensures.sized ∙ c.forget_in.ensures.sized;
      room = ap (λ (xs : List (Option Guest)). length xs) items
          ∙ (length-set (slice_set row number None) number (Some c.args.guest) ∙ length-set row number None);
      registered = seated c.args.register.now c.forget_in.new.register row c.forget_in.new.guests.items c.fill.new.guests.items number c.args.guest
          c.requires.registered c.requires.within c.forget_in.ensures.left c.forget_in.ensures.gone c.fill.ensures.there;
      order = c.forget_in.ensures.order;
      places = ap (λ (xs : List (Option Guest)). places_with xs c.fill.new.agenda) items
          ∙ ap (λ (a : Plan). places_with (slice_set (slice_set row number None) number (Some c.args.guest)) a) plan;
    }
