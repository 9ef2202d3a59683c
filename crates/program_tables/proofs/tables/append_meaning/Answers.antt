use Rattle.std.proofs.Common.{ap}
use Rattle.courier_texts.specs.Named.{named_model}
use Rattle.courier_programs.specs.Meanings.{meaning_model}
use Rattle.program_tables.proofs.Nodes.{on_err, type_is_there}
use Rattle.program_tables.proofs.tables.append_meaning.Goals as goal

pub returns-in-Type-clause-memory : goal.returns-in-Type-clause-memory
returns-in-Type-clause-memory c =
    rw (ap meaning_model c.in-Type.is) (on_err c.append_type.result (type_is_there c.args.name.now (named_model c.in-Type.named)))
