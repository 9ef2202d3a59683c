use Rattle.std.proofs.Common.{sym}
use Rattle.courier_calls.specs.Table.{entry_model, procedure_model, error_model, table_model}
use Rattle.courier_calls.proofs.Found.{found_checked, error_checked}
use Rattle.courier_calls.proofs.answering.read_abort.Goals as goal

pub value-requires : goal.value-requires
value-requires c =
    let f = found_checked (table_model c.args.table.now) c.args.target.program c.args.target.version c.args.target.procedure (entry_model c.in-Ok.entry.now) (procedure_model c.in-Ok.field-0-1.now) c.requires c.in-Ok.ensures in
    error_checked (entry_model c.in-Ok.entry.now).errors c.args.error (error_model c.in-Some.listed.now) f.errors (sym c.in-Some.ensures)
