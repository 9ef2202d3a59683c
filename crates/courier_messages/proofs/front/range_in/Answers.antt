use Rattle.std.proofs.Common.{arith}
use Rattle.std.proofs.lemmas.Grind.{elements}
use Rattle.courier_messages.proofs.front.range_in.Goals as goal

pub returns-in_err-high_low : goal.returns-in_err-high_low
returns-in_err-high_low c = grind (arith, elements)

pub returns : goal.returns
returns c = grind (arith, elements)
