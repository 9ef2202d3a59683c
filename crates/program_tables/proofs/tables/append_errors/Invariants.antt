use Rattle.std.proofs.Common.{◌≡◌, ◌++◌, map, take}
use Rattle.std.specs.List.{flat_map}
use Rattle.courier_programs.specs.Meanings.{resolved_error}
use Rattle.program_tables.specs.Tables.{error_nodes, nodes_seen}
use Rattle.program_tables.proofs.tables.append_errors.Given as goal

abbrev pub invariant-loop-error : goal.invariant-loop-error
invariant-loop-error l = nodes_seen l.out.items ≡ nodes_seen l.fn.out.items ++ flat_map error_nodes (map resolved_error (take l.error-index l.errors))
