use Rattle.std.proofs.Common.{◌≡◌, ◌≤◌}
use Rattle.xns_host.specs.Identifiers.{numbers}
use Rattle.xns_host.proofs.identifiers.numbered.Given as goal

abbrev pub invariant-loop-id : goal.invariant-loop-id
invariant-loop-id l = record { made : l.ids.items ≡ numbers l.id; within : l.id ≤ 65535 }
