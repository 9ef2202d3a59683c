use Rattle.std.proofs.Common.{rules}
use Rattle.courier_notation.specs.Written.{type_model}
use Rattle.courier_texts.specs.Named.{named_model}
use Rattle.courier_programs.specs.Declarations.{most_depth}
use Rattle.courier_programs.specs.Memory.{ResolvedTypeWants}
use Rattle.courier_programs.specs.Scopes.{env}
use Rattle.courier_programs.proofs.Wants.{type_wants}
use Rattle.courier_programs.proofs.declarations.whole_type.Goals as goal

pub returns-in_err-shape-clause-memory : goal.returns-in_err-shape-clause-memory
returns-in_err-shape-clause-memory c =
    let e = env c.args.scope.now in
    let type = type_model c.args.written.now in
    let wants : ResolvedTypeWants e type = type_wants e most_depth type c.args.room (named_model c.in_ok-named.named, c.in_ok-named.left) c.in_ok-named.ensures.exact c.in_err-shape.ensures.memory in
    search rules
