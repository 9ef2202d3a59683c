use Rattle.std.proofs.lemmas.Result.{err_from_is_err_and}
use Rattle.courier_programs.specs.Meanings.{resolved_model}
use Rattle.program_tables.proofs.Nodes.{errors_are_nodes, meanings_are_nodes}
use Rattle.program_tables.proofs.tables.table_of.Goals as goal

pub returns-in_err-append_meanings-clause-memory : goal.returns-in_err-append_meanings-clause-memory
returns-in_err-append_meanings-clause-memory c =
    let some = rw c.deref.ensures.value at c.in_err-append_meanings.ensures.memory in
    let p = err_from_is_err_and c.from_residual.result c.from_residual.ensures.1 in
    rw p.1 (meanings_are_nodes (resolved_model c.args.program.now) some)

pub returns-in_err-append_errors-clause-memory : goal.returns-in_err-append_errors-clause-memory
returns-in_err-append_errors-clause-memory c =
    let some = rw c.deref-3.ensures.value at c.in_err-append_errors.ensures.memory in
    let p = err_from_is_err_and c.from_residual-in_err-append_errors.result c.from_residual-in_err-append_errors.ensures.1 in
    rw p.1 (errors_are_nodes (resolved_model c.args.program.now) some)
