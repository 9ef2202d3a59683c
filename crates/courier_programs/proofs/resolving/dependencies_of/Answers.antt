use Rattle.std.proofs.Common.{IsOk, get_or, arith}
use Rattle.std.proofs.lemmas.List.{drop_more}
use Rattle.std.proofs.lemmas.Result.{err_from_is_err_and}
use Rattle.courier_notation.specs.declared.declared.Dependency.{Dependency}
use Rattle.courier_programs.specs.Memory.{FirstWasRead}
use Rattle.courier_programs.specs.Resolving.{dependency_step}
use Rattle.courier_programs.specs.Scopes.{names_seen}
use Rattle.courier_notation.proofs.Failing.{wanted_more}
use Rattle.courier_programs.proofs.Wants.{first_was_read}
use Rattle.courier_programs.proofs.resolving.dependencies_of.Goals as goal

pub returns-in_err-take_dependency-clause-memory : goal.returns-in_err-take_dependency-clause-memory
returns-in_err-take_dependency-clause-memory c =
    let l = c.loop-dependency in
    let names = names_seen c.args.names.now in
    let before = c.args.before.now in
    let written = c.args.written.now in
    let none : Dependency = record { name = 0; number = 0; version = 0 } in
    let d = get_or written l.dependency-index none in
    let here = drop_more written l.dependency-index none (omega arith) in
    let p = err_from_is_err_and c.from_residual.result c.from_residual.ensures.1 in
    rw (p.1, p.2)
    (wanted_more c.in_err-take_dependency.field-0.0 (IsOk (dependency_step names before l.dependencies.items d)) (FirstWasRead before written)
    (first_was_read names before l.dependencies.items written l.dependency-index d here l.invariant.first) c.in_err-take_dependency.ensures.memory)
