use Rattle.std.proofs.Common.{refl}
use Rattle.xns_c.proofs.kept_programs.KeptPrograms.read.Goals as goal

pub returns-in-Ok-clause-read : goal.returns-in-Ok-clause-read
returns-in-Ok-clause-read c = λ fine.
    let meant = rw c.deref.ensures.value at c.in-Ok.ensures.exact in
    let added = c.add.ensures.added fine in
    rw meant (added.0, (c.in-Ok.program, refl, added.1), refl)
