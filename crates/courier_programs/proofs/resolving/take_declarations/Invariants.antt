use Rattle.std.proofs.Common.{◌≡◌, drop}
use Rattle.courier_notation.specs.ProgramModels.{declaration_views}
use Rattle.courier_programs.specs.Declarations.{declaration_step}
use Rattle.courier_programs.specs.Meanings.{resolved_model}
use Rattle.courier_programs.specs.Faults.{steps}
use Rattle.courier_programs.specs.Scopes.{names_seen}
use Rattle.courier_programs.proofs.resolving.take_declarations.Given as goal

abbrev pub invariant-loop-declaration : goal.invariant-loop-declaration
invariant-loop-declaration l =
    let step = declaration_step (names_seen l.names) l.before l.dependencies in
    steps step (resolved_model l.program, l.left) (declaration_views (drop l.declaration-index l.declarations)) ≡ steps step (resolved_model l.fn.program, l.fn.room) (declaration_views l.declarations)
