use Rattle.std.proofs.Common.{◌≡◌}
use Rattle.xns_agenda.specs.Turns.{lined_up}
use Rattle.xns_agenda.proofs.agenda.all_free.Given as goal

abbrev pub invariant-loop-number : goal.invariant-loop-number
invariant-loop-number l = l.free ≡ lined_up l.most l.number
