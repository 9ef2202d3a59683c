use Rattle.std.proofs.Common.{rules}
use Rattle.xns_c.proofs.reader.xns_read_count.Goals as goal

pub returns-in-len1-up-2-clause-over : goal.returns-in-len1-up-2-clause-over
returns-in-len1-up-2-clause-over c = search rules
