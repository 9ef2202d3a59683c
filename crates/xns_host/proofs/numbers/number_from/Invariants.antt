use Rattle.xns_host.specs.Numbers.{HasNoneFrom}
use Rattle.xns_host.proofs.numbers.number_from.Given as goal

abbrev pub invariant-loop-number : goal.invariant-loop-number
invariant-loop-number l = HasNoneFrom l.guests l.from l.number
