use Rattle.std.proofs.Common.{◌≡◌, drop}
use Rattle.courier_notation.specs.ProgramModels.{declaration_views}
use Rattle.courier_programs.specs.Faults.{steps}
use Rattle.courier_programs.specs.Resolving.{reports_step}
use Rattle.courier_programs.specs.Scopes.{env}
use Rattle.courier_programs.proofs.resolving.check_all_reports.Given as goal

abbrev pub invariant-loop-declaration : goal.invariant-loop-declaration
invariant-loop-declaration l = steps (reports_step (env l.scope)) tt (declaration_views (drop l.declaration-index l.declarations)) ≡ steps (reports_step (env l.scope)) tt (declaration_views l.declarations)
