use Rattle.std.proofs.Common.{◌≢◌, ℕ, ◌+◌, List, [], drop, subst, arith}
use Rattle.std.proofs.lemmas.Result.{err_from_is_err_and}
use Rattle.courier_programs.specs.Meanings.{meaning_model}
use Rattle.program_tables.specs.Tables.{meaning_nodes}
use Rattle.courier_types.proofs.Loops.{item_here}
use Rattle.program_tables.proofs.Nodes.{one_of_them}
use Rattle.program_tables.proofs.tables.append_meanings.Goals as goal

pub returns-in_err-append_meaning-clause-memory : goal.returns-in_err-append_meaning-clause-memory
returns-in_err-append_meaning-clause-memory c =
    let l = c.loop-meaning in
    let meanings = c.args.meanings.now in
    let m = c.meaning-item.result in
    let here = item_here meanings l.meaning-index m (omega arith) c.meaning-item.is in
    let some = subst (λ (n : List ℕ). meaning_nodes (n, meaning_model m.1) ≢ []) c.deref.ensures.value c.in_err-append_meaning.ensures.memory in
    let p = err_from_is_err_and c.from_residual.result c.from_residual.ensures.1 in
    rw p.1 (one_of_them meaning_nodes (λ x. (x.0.items, meaning_model x.1)) meanings l.meaning-index m (drop (l.meaning-index + 1) meanings) here some)
