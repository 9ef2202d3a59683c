use Rattle.courier_programs.proofs.Models.{components_are}
use Rattle.program_tables.proofs.tables.append_fields.Goals as goal

pub returns : goal.returns
returns c = rw (← components_are c.args.fields.now.components.items, ← c.deref.ensures.value) c.append_record.ensures
