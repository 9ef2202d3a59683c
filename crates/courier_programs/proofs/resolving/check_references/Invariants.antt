use Rattle.std.proofs.Common.{◌≡◌, drop}
use Rattle.courier_programs.specs.Faults.{steps}
use Rattle.courier_programs.specs.Resolving.{reported}
use Rattle.courier_programs.specs.Scopes.{env}
use Rattle.courier_programs.proofs.resolving.check_references.Given as goal

abbrev pub invariant-loop-reference : goal.invariant-loop-reference
invariant-loop-reference l = steps (reported (env l.scope)) tt (drop l.reference-index l.references) ≡ steps (reported (env l.scope)) tt l.references
