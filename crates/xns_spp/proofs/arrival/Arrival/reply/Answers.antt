use Rattle.std.proofs.Common.{rules}
use Rattle.xns_spp.proofs.arrival.Arrival.reply.Goals as goal

pub returns-clause-ok : goal.returns-clause-ok
returns-clause-ok c = search rules
