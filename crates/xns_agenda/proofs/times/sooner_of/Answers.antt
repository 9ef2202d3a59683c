use Rattle.std.proofs.Common.{refl, Some}
use Rattle.xns_agenda.proofs.Beside.{first_beside, first_of_others, no_later}
use Rattle.xns_agenda.proofs.times.sooner_of.Goals as goal

pub returns-in-Some-clause-first : goal.returns-in-Some-clause-first
returns-in-Some-clause-first c =
    first_of_others c.args.others.now c.args.last c.in-Some.found.0 c.in-Some.found.1 (Some c.args.time) c.requires.none
    (c.first_by.ensures.some c.in-Some.found.0 c.in-Some.found.1 c.in-Some.is) (no_later c.in-Some.found.1 c.args.time (c.first_by.ensures.by c.in-Some.found.0 c.in-Some.found.1 c.in-Some.is))

pub returns-in-Some-clause-by : goal.returns-in-Some-clause-by
returns-in-Some-clause-by c = c.first_by.ensures.by c.in-Some.found.0 c.in-Some.found.1 c.in-Some.is

pub returns-in-None-clause-first : goal.returns-in-None-clause-first
returns-in-None-clause-first c = first_beside c.args.others.now c.args.last c.args.time (c.requires.within c.args.time refl) (c.first_by.ensures.none c.in-None.is)
