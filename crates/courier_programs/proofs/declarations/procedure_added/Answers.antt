use Rattle.std.proofs.Common.{◌<◌, IsOk, length}
use Rattle.std.proofs.lemmas.Result.{err_from_is_err_and}
use Rattle.courier_notation.specs.Written.{field_models}
use Rattle.courier_programs.specs.Meanings.{fields_model}
use Rattle.courier_programs.specs.Scopes.{env, spent}
use Rattle.courier_notation.proofs.Failing.{wanted_more}
use Rattle.courier_programs.proofs.Wants.{had_room}
use Rattle.courier_programs.proofs.declarations.procedure_added.Goals as goal

pub returns-in_err-results-clause-memory : goal.returns-in_err-results-clause-memory
returns-in_err-results-clause-memory c =
    let p = err_from_is_err_and c.from_residual-in_err-results.result c.from_residual-in_err-results.ensures.1 in
    let e = env c.args.scope.now in
    let room = had_room (env c.args.scope.now) (field_models c.args.arguments.now) c.args.room (fields_model c.in_ok-arguments.arguments, c.in_ok-arguments.left) c.in_ok-arguments.ensures.exact in
    rw (p.1, p.2) (wanted_more c.in_err-results.field-0.0 (IsOk (spent e c.in_ok-arguments.left 1) × (0 < length c.args.results.now)) (IsOk (spent e c.args.room 1)) (λ _. room) c.in_err-results.ensures.memory)

pub returns-in_err-name-clause-memory : goal.returns-in_err-name-clause-memory
returns-in_err-name-clause-memory c =
    let p = err_from_is_err_and c.from_residual-in_err-name.result c.from_residual-in_err-name.ensures.1 in
    rw (p.1, p.2) (had_room (env c.args.scope.now) (field_models c.args.arguments.now) c.args.room (fields_model c.in_ok-arguments.arguments, c.in_ok-arguments.left) c.in_ok-arguments.ensures.exact)
