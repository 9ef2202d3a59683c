use Rattle.std.proofs.Common.{rules}
use Rattle.xns_c.proofs.address.tell_end.Goals as goal

pub returns : goal.returns
returns c = search rules
