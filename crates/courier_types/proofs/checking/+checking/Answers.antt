use Rattle.courier_types.specs.Shape.{shape_models, member_models}
use Rattle.courier_types.specs.Check.{faults_of_parts, faults_of_members}
use Rattle.courier_types.proofs.Loops.{walk_on}
use Rattle.courier_types.proofs.Checks.{none_or}
use Rattle.courier_types.proofs.checking.+checking.Goals as goal

pub check_parts-loop-part-preserved : goal.check_parts-loop-part-preserved
check_parts-loop-part-preserved t c =
    walk_on (λ ps. faults_of_parts (shape_models ps)) _ _ _ _ _ c.part-item.is c.loop-part-test.true (none_or _ _ c.in_ok-check_parts_first.ensures) c.loop-part.invariant

pub check_members-loop-member-preserved : goal.check_members-loop-member-preserved
check_members-loop-member-preserved t c =
    walk_on (λ ms. faults_of_members (member_models ms)) _ _ _ _ _ c.member-item.is c.loop-member-test.true (none_or _ _ c.in_ok-check_parts_first.ensures) c.loop-member.invariant
