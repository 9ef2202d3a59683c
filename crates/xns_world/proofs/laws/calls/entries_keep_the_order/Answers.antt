use Rattle.xns_world.proofs.Ledgers.{in_order}
use Rattle.xns_world.proofs.laws.calls.entries_keep_the_order.Goals as goal

pub returns : goal.returns
returns g c = in_order
