use Rattle.std.proofs.Common.{◌≡◌, ◌++◌, map, take}
use Rattle.courier_texts.specs.Named.{members_seen}
use Rattle.program_tables.specs.Tables.{member_node, nodes_seen}
use Rattle.program_tables.proofs.tables.append_members.Given as goal

abbrev pub invariant-loop-member : goal.invariant-loop-member
invariant-loop-member l = nodes_seen l.out.items ≡ nodes_seen l.fn.out.items ++ map member_node (members_seen (take l.member-index l.members))
