use Rattle.std.proofs.Common.{rules}
use Rattle.xns_c.proofs.writer.xns_write_count.Goals as goal

pub returns-clause-over : goal.returns-clause-over
returns-clause-over c = search rules
