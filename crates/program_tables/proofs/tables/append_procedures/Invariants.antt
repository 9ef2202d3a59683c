use Rattle.std.proofs.Common.{◌≡◌, ◌++◌, map, take}
use Rattle.std.specs.List.{flat_map}
use Rattle.courier_programs.specs.Meanings.{resolved_procedure}
use Rattle.program_tables.specs.Tables.{nodes_seen, procedure_nodes}
use Rattle.program_tables.proofs.tables.append_procedures.Given as goal

abbrev pub invariant-loop-procedure : goal.invariant-loop-procedure
invariant-loop-procedure l = nodes_seen l.out.items ≡ nodes_seen l.fn.out.items ++ flat_map procedure_nodes (map resolved_procedure (take l.procedure-index l.procedures))
