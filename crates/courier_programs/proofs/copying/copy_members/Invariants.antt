use Rattle.std.proofs.Common.{◌≡◌, take}
use Rattle.courier_texts.specs.Named.{members_seen}
use Rattle.courier_programs.proofs.copying.copy_members.Given as goal

abbrev pub invariant-loop-member : goal.invariant-loop-member
invariant-loop-member l = members_seen l.copies.items ≡ members_seen (take l.member-index l.members)
