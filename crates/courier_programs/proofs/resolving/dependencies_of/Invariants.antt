use Rattle.std.proofs.Common.{◌≡◌, ◌<◌, [], drop}
use Rattle.courier_programs.specs.Memory.{FirstWasRead}
use Rattle.courier_programs.specs.Faults.{steps}
use Rattle.courier_programs.specs.Resolving.{dependency_step}
use Rattle.courier_programs.specs.Scopes.{names_seen}
use Rattle.courier_programs.proofs.resolving.dependencies_of.Given as goal

abbrev pub invariant-loop-dependency : goal.invariant-loop-dependency
invariant-loop-dependency l = record {
  so_far : steps (dependency_step (names_seen l.names) l.before) l.dependencies.items (drop l.dependency-index l.written) ≡ steps (dependency_step (names_seen l.names) l.before) [] l.written;
  first : 0 < l.dependency-index → FirstWasRead l.before l.written;
}
