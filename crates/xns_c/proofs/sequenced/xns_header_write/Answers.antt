use Rattle.std.proofs.Common.{rules}
use Rattle.xns_c.proofs.sequenced.xns_header_write.Goals as goal

pub returns-clause-written : goal.returns-clause-written
returns-clause-written c = search rules steps 1000000
