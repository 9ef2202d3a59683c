use Rattle.xns_agenda.proofs.pace.Pace.+further_waits.Given as goal

abbrev pub decreases-further_waits : goal.decreases-further_waits
decreases-further_waits l = l.span
