use Rattle.std.proofs.Common.{◌≡◌, ◌++◌, take}
use Rattle.std.specs.List.{flat_map}
use Rattle.courier_programs.specs.Meanings.{meanings_seen}
use Rattle.program_tables.specs.Tables.{meaning_nodes, nodes_seen}
use Rattle.program_tables.proofs.tables.append_meanings.Given as goal

abbrev pub invariant-loop-meaning : goal.invariant-loop-meaning
invariant-loop-meaning l = nodes_seen l.out.items ≡ nodes_seen l.fn.out.items ++ flat_map meaning_nodes (meanings_seen (take l.meaning-index l.meanings))
