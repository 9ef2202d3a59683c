use Rattle.std.proofs.Common.{◌≡◌, drop}
use Rattle.courier_programs.specs.Scopes.{env}
use Rattle.courier_programs.specs.Types.{has_name}
use Rattle.courier_programs.proofs.distinct.has_name.Given as goal

abbrev pub invariant-loop-other : goal.invariant-loop-other
invariant-loop-other l = has_name (env l.scope) (drop l.other-index l.seen) l.name ≡ has_name (env l.scope) l.seen l.name
