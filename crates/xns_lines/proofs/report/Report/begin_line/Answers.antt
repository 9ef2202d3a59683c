use Rattle.std.proofs.Common.{arith}
use Rattle.std.proofs.lemmas.Grind.{common_steps}
use Rattle.xns_lines.proofs.report.Report.begin_line.Goals as goal

pub returns-clause-front : goal.returns-clause-front
returns-clause-front c = grind (arith, common_steps)

pub returns-clause-line : goal.returns-clause-line
returns-clause-line c = grind (arith, common_steps)
