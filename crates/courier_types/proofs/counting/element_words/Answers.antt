use Rattle.courier_types.proofs.OneWord.{words_counted}
use Rattle.std.proofs.Common.{arith}
use Rattle.courier_types.proofs.counting.element_words.Goals as goal

pub returns-in-Some-clause-some : goal.returns-in-Some-clause-some
returns-in-Some-clause-some c = grind (arith, words_counted)

pub returns-in-Some-2-clause-none : goal.returns-in-Some-2-clause-none
returns-in-Some-2-clause-none c = grind (arith, words_counted)
