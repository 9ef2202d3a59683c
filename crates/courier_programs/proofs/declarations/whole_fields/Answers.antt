use Rattle.std.proofs.Common.{◌≡◌, ◌<◌, length, rules}
use Rattle.std.proofs.lemmas.List.{length-map}
use Rattle.courier_programs.specs.Declarations.{most_depth}
use Rattle.courier_programs.specs.Meanings.{components_seen}
use Rattle.courier_programs.specs.Scopes.{env}
use Rattle.courier_programs.specs.Types.{type_meant}
use Rattle.courier_programs.proofs.Wants.{groups_were_there}
use Rattle.courier_programs.proofs.declarations.whole_fields.Goals as goal

pub returns-in_err-shape-clause-memory : goal.returns-in_err-shape-clause-memory
returns-in_err-shape-clause-memory c =
    let e = env c.args.scope.now in
    let parts = c.in_ok-components.components.items in
    let same : length (components_seen parts) ≡ length parts = length-map parts _ in
    let some : 0 < length (components_seen parts) = rw same (rw c.deref.ensures.value at c.in_err-shape.ensures.memory) in
    let there : 0 < length c.args.groups.now = groups_were_there e (type_meant e most_depth) c.in_ok-left.left c.args.groups.now (components_seen parts, c.in_ok-components.left) c.in_ok-components.ensures.exact some in
    search rules
