use Rattle.std.proofs.Common.{rules}
use Rattle.xns_small.specs.ErrorReport.{error_of}
use Rattle.xns_small.proofs.error_report.read_report.Goals as goal

pub returns : goal.returns
unfolding error_of
returns c = search rules
