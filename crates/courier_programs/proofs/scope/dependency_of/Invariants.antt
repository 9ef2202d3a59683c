use Rattle.std.proofs.Common.{◌≡◌, drop}
use Rattle.courier_programs.specs.Scopes.{dependency_of, names_seen}
use Rattle.courier_programs.proofs.scope.dependency_of.Given as goal

abbrev pub invariant-loop-dependency : goal.invariant-loop-dependency
invariant-loop-dependency l = dependency_of (names_seen l.names) (drop l.dependency-index l.dependencies) l.name ≡ dependency_of (names_seen l.names) l.dependencies l.name
