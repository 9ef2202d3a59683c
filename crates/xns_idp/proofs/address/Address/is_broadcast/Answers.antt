use Rattle.std.proofs.Common.{rules}
use Rattle.xns_idp.proofs.address.Address.is_broadcast.Goals as goal

pub returns : goal.returns
returns c = search rules
