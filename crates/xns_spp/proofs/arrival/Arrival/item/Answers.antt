use Rattle.std.proofs.Common.{rules}
use Rattle.xns_spp.proofs.arrival.Arrival.item.Goals as goal

pub returns-in-Pass-clause-err : goal.returns-in-Pass-clause-err
returns-in-Pass-clause-err c = search rules
