use Rattle.std.proofs.Common.{◌≡◌, drop}
use Rattle.courier_texts.specs.Named.{members_seen}
use Rattle.courier_programs.specs.Types.{word_by_name}
use Rattle.courier_programs.proofs.members.word_by_name.Given as goal

abbrev pub invariant-loop-member : goal.invariant-loop-member
invariant-loop-member l = word_by_name (members_seen (drop l.member-index l.members)) l.name ≡ word_by_name (members_seen l.members) l.name
