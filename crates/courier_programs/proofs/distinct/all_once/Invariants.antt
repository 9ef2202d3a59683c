use Rattle.std.proofs.Common.{◌≡◌, drop}
use Rattle.courier_programs.specs.Faults.{steps}
use Rattle.courier_programs.specs.Scopes.{env}
use Rattle.courier_programs.specs.Types.{once}
use Rattle.courier_programs.proofs.distinct.all_once.Given as goal

abbrev pub invariant-loop-name : goal.invariant-loop-name
invariant-loop-name l = steps (once (env l.scope)) l.seen.items (drop l.name-index l.names) ≡ steps (once (env l.scope)) l.fn.seen.items l.names
