use Rattle.std.proofs.Common.{◌≡◌, [], drop}
use Rattle.courier_texts.specs.Named.{members_seen}
use Rattle.courier_programs.specs.Faults.{steps}
use Rattle.courier_programs.specs.Scopes.{env}
use Rattle.courier_programs.specs.Types.{member_step}
use Rattle.courier_programs.proofs.members.members_of.Given as goal

abbrev pub invariant-loop-member : goal.invariant-loop-member
invariant-loop-member l = steps (member_step (env l.scope)) (members_seen l.members.items, l.left) (drop l.member-index l.written) ≡ steps (member_step (env l.scope)) ([], l.fn.room) l.written
