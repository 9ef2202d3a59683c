use Rattle.std.proofs.Common.{true, false, ap, sym, ◌∙◌}
use Rattle.courier_types.specs.Check.{depth}
use Rattle.courier_types.specs.Shape.{shape_model}
use Rattle.courier_types.proofs.Deeper.{choice_depth, one_deeper, of_parts, of_members, looked_at}
use Rattle.courier_types.proofs.checking.+deeper.Goals as goal

pub has_deeper-loop-part-preserved : goal.has_deeper-loop-part-preserved
has_deeper-loop-part-preserved t c = looked_at of_parts _ _ _ _ false _ c.part-item.is c.loop-part-test.true (sym c.if-is_deeper.false ∙ c.is_deeper.ensures) c.loop-part.invariant

pub has_deeper-returns-then-is_deeper : goal.has_deeper-returns-then-is_deeper
has_deeper-returns-then-is_deeper t c = looked_at of_parts _ _ _ _ true _ c.part-item.is c.loop-part-test.true (sym c.if-is_deeper.true ∙ c.is_deeper.ensures) c.loop-part.invariant

pub has_deeper_member-loop-member-preserved : goal.has_deeper_member-loop-member-preserved
has_deeper_member-loop-member-preserved t c = looked_at of_members _ _ _ _ false _ c.member-item.is c.loop-member-test.true (sym c.if-is_deeper.false ∙ c.is_deeper.ensures) c.loop-member.invariant

pub has_deeper_member-returns-then-is_deeper : goal.has_deeper_member-returns-then-is_deeper
has_deeper_member-returns-then-is_deeper t c = looked_at of_members _ _ _ _ true _ c.member-item.is c.loop-member-test.true (sym c.if-is_deeper.true ∙ c.is_deeper.ensures) c.loop-member.invariant

pub is_deeper-returns-in-Choice : goal.is_deeper-returns-in-Choice
is_deeper-returns-in-Choice t c =
    let seen = ap (λ s. depth (shape_model s)) c.in-Choice.is ∙ choice_depth c.in-Choice.members in
    rw (seen, ← c.deref-in-Choice.ensures.value) (c.has_deeper_member.ensures ∙ one_deeper _ _ c.if-limit-eq0.false)
