use Rattle.std.proofs.Common.{rules}
use Rattle.xns_c.proofs.reader.xns_read_end.Goals as goal

pub returns-in_default-clause-left : goal.returns-in_default-clause-left
returns-in_default-clause-left c = search rules
