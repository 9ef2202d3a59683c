use Rattle.std.proofs.Common.{◌≡◌, ◌∙◌, ap, sym, List, length, Option, None, arith}
use Rattle.std.proofs.lemmas.List.{length-replicate}
use Rattle.xns_host.specs.declared.guest.Guest.{Guest}
use Rattle.xns_host.proofs.Noting.{empty_noted}
use Rattle.xns_host.proofs.Registered.{nobody_registered}
use Rattle.xns_host.proofs.Undone.{none_done}
use Rattle.xns_host.proofs.host.Host.made.Goals as goal

pub invariant_of-result : goal.invariant_of-result
invariant_of-result c =
    let size : length c.in_ok-no_guests.field-0.items ≡ c.args.settings.connections
    = ap (λ (xs : List (Option Guest)). length xs) c.in_ok-no_guests.ensures ∙ length-replicate {A = Option Guest} c.args.settings.connections None in record {
      fit = c.requires;
      sized = size ∙ sym c.in_ok-new-3.ensures.room.dues;
      few = omega (arith, size, c.requires.connections);
      settled = size;
      noted = empty_noted c.in_ok-new-3.field-0 c.in_ok-no_guests.field-0.items c.args.settings.connections c.in_ok-new-3.ensures.nobody c.in_ok-no_guests.ensures;
      registered = nobody_registered c.in_ok-new-2.field-0 c.in_ok-no_guests.field-0.items c.args.settings.connections c.in_ok-no_guests.ensures
          c.in_ok-new-2.ensures.free c.in_ok-new-2.ensures.nobody;
      not_done = none_done c.in_ok-no_guests.field-0.items c.args.settings.connections c.in_ok-no_guests.ensures;
    }
