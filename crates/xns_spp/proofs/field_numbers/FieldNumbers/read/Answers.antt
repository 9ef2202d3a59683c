use Rattle.std.proofs.Common.{rules}
use Rattle.xns_spp.proofs.field_numbers.FieldNumbers.read.Goals as goal

pub returns-clause-value : goal.returns-clause-value
returns-clause-value c = search rules
