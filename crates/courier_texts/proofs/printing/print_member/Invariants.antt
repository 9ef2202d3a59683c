use Rattle.std.proofs.Common.{◌≡◌, drop}
use Rattle.courier_texts.specs.Named.{members_seen}
use Rattle.courier_texts.specs.Printing.{member_text}
use Rattle.courier_texts.proofs.printing.print_member.Given as goal

abbrev pub invariant-loop-member : goal.invariant-loop-member
invariant-loop-member l = record {
  same : l.out ≡ l.fn.out;
  here : member_text (members_seen (drop l.member-index l.members)) l.word ≡ member_text (members_seen l.members) l.word;
}
