use Rattle.std.proofs.Common.{rules}
use Rattle.xns_lines.proofs.report.Report.clear.Goals as goal

pub returns-clause-line : goal.returns-clause-line
returns-clause-line c = search rules
