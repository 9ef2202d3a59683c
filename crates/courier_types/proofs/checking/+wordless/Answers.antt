use Rattle.std.proofs.Common.{true, false, sym, ◌∙◌}
use Rattle.courier_types.proofs.Loops.{walk_on, first_answers}
use Rattle.courier_types.proofs.Checks.{parts_wordless}
use Rattle.courier_types.proofs.checking.+wordless.Goals as goal

pub are_wordless-returns-then-not-is_wordless : goal.are_wordless-returns-then-not-is_wordless
are_wordless-returns-then-not-is_wordless t c =
    walk_on parts_wordless _ _ _ _ _ c.part-item.is c.loop-part-test.true (first_answers _ false _ (sym c.is_wordless.ensures ∙ c.if-not-is_wordless.true)) c.loop-part.invariant

pub are_wordless-loop-part-preserved : goal.are_wordless-loop-part-preserved
are_wordless-loop-part-preserved t c =
    walk_on parts_wordless _ _ _ _ _ c.part-item.is c.loop-part-test.true (first_answers _ true _ (sym c.is_wordless.ensures ∙ c.if-not-is_wordless.false)) c.loop-part.invariant
