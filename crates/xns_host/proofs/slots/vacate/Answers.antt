use Rattle.std.proofs.Common.{◌<◌, length, arith}
use Rattle.xns_host.proofs.Noting.{vacated}
use Rattle.xns_host.proofs.slots.vacate.Goals as goal

pub returns-clause-noted : goal.returns-clause-noted
returns-clause-noted c =
    let less : c.args.number < length c.args.agenda.now.dues = omega (arith, c.requires.within, c.requires.sized) in
    rw c.take.ensures.after (rw c.release.ensures.released
    (vacated c.args.agenda.now c.args.guests.now.items c.args.number (length c.args.agenda.now.dues) c.release.ensures.room less c.requires.within c.requires.noted))
