use Rattle.std.proofs.Common.{◌≡◌, drop}
use Rattle.courier_texts.specs.Named.{members_seen}
use Rattle.courier_programs.specs.Types.{lists_word}
use Rattle.courier_programs.proofs.members.lists_word.Given as goal

abbrev pub invariant-loop-member : goal.invariant-loop-member
invariant-loop-member l = lists_word (members_seen (drop l.member-index l.members)) l.word ≡ lists_word (members_seen l.members) l.word
