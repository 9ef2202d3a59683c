use Rattle.std.proofs.Common.{◌≡◌, ◌<◌, ◌∙◌, ap, slice_get, Some, length, arith}
use Rattle.std.specs.Prelude.{slice_set}
use Rattle.xns_agenda.specs.Agenda.{Plan, noted}
use Rattle.xns_host.specs.Hosting.{facts_in}
use Rattle.xns_host.proofs.Apart.{set_there}
use Rattle.xns_host.proofs.Noting.{filled}
use Rattle.xns_host.proofs.slots.fill.Goals as goal

pub note-requires-clause-others : goal.note-requires-clause-others
note-requires-clause-others c =
    let less : c.args.number < length c.args.agenda.now.dues = omega (arith, c.requires.within, c.requires.sized) in
    let items : c.as_slice.result.now ≡ slice_set c.args.guests.now.items c.args.number (Some c.args.guest) = cc in
    rw items (rw c.take.ensures.taken
    (filled c.args.agenda.now c.args.guests.now.items c.args.number (length c.args.agenda.now.dues) c.args.guest c.take.ensures.room less c.requires.within c.requires.noted))

pub returns-clause-agenda : goal.returns-clause-agenda
returns-clause-agenda c =
    let items : c.as_slice.result.now ≡ slice_set c.args.guests.now.items c.args.number (Some c.args.guest) = cc in
    let here : slice_get c.as_slice.result.now c.args.number ≡ Some (Some c.args.guest)
    = set_there c.args.guests.now.items c.as_slice.result.now c.args.number (Some c.args.guest) c.requires.within items in
    c.note.ensures.is (Some c.args.guest) here ∙ ap (λ (a : Plan). noted a c.args.number (facts_in (Some c.args.guest))) c.take.ensures.taken
