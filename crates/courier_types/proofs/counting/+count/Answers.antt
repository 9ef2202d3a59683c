use Rattle.std.proofs.lemmas.Grind.{common_steps}
use Rattle.std.proofs.Common.{arith}
use Rattle.courier_types.proofs.Writes.{one_counted}
use Rattle.courier_types.proofs.counting.+count.Goals as goal

pub room_behind_values-loop-value-preserved : goal.room_behind_values-loop-value-preserved
room_behind_values-loop-value-preserved t c = omega (arith, one_counted _ _ _ c.value-item.is c.loop-value-test.true, c.in_ok-left.ensures.some, c.loop-value.invariant)

pub room_behind_values-returns-in_err-left-clause-none : goal.room_behind_values-returns-in_err-left-clause-none
room_behind_values-returns-in_err-left-clause-none t c =
    rw c.from_residual.ensures (omega (arith, one_counted _ _ _ c.value-item.is c.loop-value-test.true, c.in_err-left.ensures.none, c.loop-value.invariant))

pub room_behind_values-returns-clause-some : goal.room_behind_values-returns-clause-some
room_behind_values-returns-clause-some t c = grind (arith, common_steps)
