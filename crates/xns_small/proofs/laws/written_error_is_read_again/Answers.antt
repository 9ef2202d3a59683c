use Rattle.xns_small.specs.ErrorReport.{error_of}
use Rattle.xns_small.proofs.Errors.{error_format}
use Rattle.xns_small.proofs.Formats.{spelled_is_read}
use Rattle.xns_small.proofs.laws.written_error_is_read_again.Goals as goal

pub returns : goal.returns
unfolding error_of
returns c = spelled_is_read error_format
