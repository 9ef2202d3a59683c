use Rattle.std.proofs.Common.{◌≡◌, ◌<◌, Some, length, refl, slice_get, arith}
use Rattle.std.proofs.lemmas.Option.{slice_get_read}
use Rattle.xns_host.proofs.Noting.{noted_all}
use Rattle.xns_host.proofs.slots.note.Goals as goal

pub returns-clause-noted : goal.returns-clause-noted
returns-clause-noted c =
    let less : c.args.number < length c.args.agenda.now.dues = omega (arith, c.requires.within, c.requires.sized) in
    let there : slice_get c.args.guests.now c.args.number ≡ Some c.index-guests-number.result
    = slice_get_read c.args.guests.now (length c.args.guests.now) c.args.number c.index-guests-number.result refl c.requires.within c.index-guests-number.is in
    rw c.note.ensures.noted (rw c.facts_in-facts.ensures
    (noted_all c.args.agenda.now c.args.guests.now c.args.number (length c.args.agenda.now.dues) c.index-guests-number.result c.note.ensures.room less there c.requires.others))
