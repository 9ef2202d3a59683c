use Rattle.std.proofs.Common.{arith}
use Rattle.xns_idp.proofs.Cells.{same_six}
use Rattle.xns_idp.proofs.address.Address.is_same_host.Goals as goal

pub returns : goal.returns
returns c = same_six c.args.self.now.host c.args.other.now.host (omega arith) (omega arith)
