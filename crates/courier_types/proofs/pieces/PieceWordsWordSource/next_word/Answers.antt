use Rattle.std.proofs.Common.{arith, rules}
use Rattle.std.proofs.lemmas.Grind.{common_steps}
use Rattle.courier_types.proofs.pieces.PieceWordsWordSource.next_word.Goals as goal

pub returns-in-len2-up : goal.returns-in-len2-up
returns-in-len2-up c = grind (arith, common_steps)

pub returns-in_err-low : goal.returns-in_err-low
returns-in_err-low c = search rules

pub overflow_sub-self-2 : goal.overflow_sub-self-2
overflow_sub-self-2 c = search rules

pub invariant_of-self-2 : goal.invariant_of-self-2
invariant_of-self-2 c = search rules

pub returns : goal.returns
returns c = search rules

pub invariant_of-self : goal.invariant_of-self
invariant_of-self c = grind (arith, common_steps)
