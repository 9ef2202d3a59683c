use Rattle.std.proofs.Common.{arith}
use Rattle.xns_small.specs.ErrorReport.{error_report_model, error_of}
use Rattle.xns_small.proofs.Errors.{error_format}
use Rattle.xns_small.proofs.Formats.{is_read}
use Rattle.xns_small.proofs.error_report.read_error.Goals as goal

pub returns : goal.returns
unfolding error_of
returns c =
    let read = is_read error_format error_report_model c.args.body.now c.read_report.result (λ i. omega (arith, c.type_inv.body i)) c.read_report.ensures in
    record { exact = c.read_report.ensures; found = read.0; only = read.1 }
