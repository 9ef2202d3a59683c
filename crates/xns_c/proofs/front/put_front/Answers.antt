use Rattle.std.proofs.Common.{rules}
use Rattle.xns_c.proofs.front.put_front.Goals as goal

pub returns-clause-put : goal.returns-clause-put
returns-clause-put c = search rules
