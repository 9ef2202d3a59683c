use Rattle.std.proofs.Common.{◌≡◌, replicate, None}
use Rattle.xns_host.proofs.slots.no_guests.Given as goal

abbrev pub invariant-loop : goal.invariant-loop
invariant-loop l = l.guests.items ≡ replicate l.counter None
