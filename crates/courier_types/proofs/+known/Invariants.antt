use Rattle.std.proofs.Common.{drop}
use Rattle.courier_types.specs.Shape.{shape_models, member_models, AreShapes, AreMembers}
use Rattle.courier_types.proofs.+known.Given as goal

abbrev pub invariant-known::known_members-loop-member : goal.invariant-known::known_members-loop-member
invariant-known::known_members-loop-member l = AreMembers (member_models (drop l.member-index l.members)) → AreMembers (member_models l.members)

abbrev pub invariant-known::known_parts-loop-part : goal.invariant-known::known_parts-loop-part
invariant-known::known_parts-loop-part l = AreShapes (shape_models (drop l.part-index l.parts)) → AreShapes (shape_models l.parts)
