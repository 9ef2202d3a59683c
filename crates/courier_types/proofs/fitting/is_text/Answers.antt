use Rattle.std.proofs.Common.{rules, arith}
use Rattle.std.proofs.lemmas.Grind.{elements}
use Rattle.courier_types.proofs.fitting.is_text.Goals as goal

pub returns-clause-decides : goal.returns-clause-decides
returns-clause-decides c = search rules

pub returns-clause-numbers : goal.returns-clause-numbers
returns-clause-numbers c = grind (arith, elements)
