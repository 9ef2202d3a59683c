use Rattle.courier_calls.specs.Table.{entry_model, procedure_model, table_model}
use Rattle.courier_calls.proofs.Found.{found_checked}
use Rattle.courier_calls.proofs.answering.read_return.Goals as goal

pub value-requires : goal.value-requires
value-requires c = (found_checked (table_model c.args.table.now) c.args.target.program c.args.target.version c.args.target.procedure (entry_model c.in-Ok.field-0-0.now) (procedure_model c.in-Ok.listed.now) c.requires c.in-Ok.ensures).results
