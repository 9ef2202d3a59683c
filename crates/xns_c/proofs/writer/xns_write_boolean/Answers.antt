use Rattle.std.proofs.Common.{rules}
use Rattle.xns_c.proofs.writer.xns_write_boolean.Goals as goal

pub returns : goal.returns
returns c = search rules
