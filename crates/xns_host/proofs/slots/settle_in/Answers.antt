use Rattle.std.proofs.Common.{◌≡◌, ◌∙◌, ap, List, Option, None, Some, length, slice_get, slice_set}
use Rattle.std.proofs.lemmas.List.{length-set}
use Rattle.xns_agenda.specs.Agenda.{Plan, released}
use Rattle.xns_host.specs.Places.{places_with}
use Rattle.xns_host.specs.declared.guest.Guest.{Guest}
use Rattle.xns_host.proofs.Leaving.{forgotten}
use Rattle.xns_host.proofs.slots.settle_in.Goals as goal

pub returns-then-done-clause-registered : goal.returns-then-done-clause-registered
returns-then-done-clause-registered c =
    forgotten c.args.register.now c.forget_in.new.register c.args.guests.now.items c.forget_in.new.guests.items c.args.number c.requires.registered
    c.requires.within c.forget_in.ensures.gone c.forget_in.ensures.left

pub returns-then-done-clause-room : goal.returns-then-done-clause-room
returns-then-done-clause-room c =
    ap (λ (xs : List (Option Guest)). length xs) c.forget_in.ensures.gone ∙ length-set c.args.guests.now.items c.args.number None

pub returns-then-done-clause-places : goal.returns-then-done-clause-places
returns-then-done-clause-places c = λ place there.
    let at : slice_get c.as_slice.result.now c.args.number ≡ Some place = cc in
    rw c.if-done.true (ap (λ (xs : List (Option Guest)). places_with xs c.forget_in.new.agenda) c.forget_in.ensures.gone
    ∙ ap (λ (a : Plan). places_with (slice_set c.args.guests.now.items c.args.number None) a)
    (c.forget_in.ensures.agenda ∙ ap (λ (a : Plan). released a c.args.number) (c.note.ensures.is place at)))

pub returns-else-done-clause-places : goal.returns-else-done-clause-places
returns-else-done-clause-places c = λ place there.
    let at : slice_get c.as_slice.result.now c.args.number ≡ Some place = cc in
    rw c.if-done.false (ap (λ (a : Plan). places_with c.args.guests.now.items a) (c.note.ensures.is place at))
