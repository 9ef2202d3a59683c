use Rattle.std.proofs.Common.{◌≡◌, ◌++◌, drop, length}
use Rattle.program_tables.specs.Tables.{nodes_seen}
use Rattle.xns_c.specs.Programs.{names_given, nodes_given}
use Rattle.xns_c.proofs.giving.nodes_out.Given as goal

abbrev pub invariant-loop-node : goal.invariant-loop-node
invariant-loop-node l = record {
  nodes : l.table.items ++ nodes_given (length l.names.items) (nodes_seen (drop l.node-index l.nodes)) ≡ nodes_given 0 (nodes_seen l.nodes);
  names : l.names.items ++ names_given (nodes_seen (drop l.node-index l.nodes)) ≡ names_given (nodes_seen l.nodes);
}
