use Rattle.std.proofs.Common.{rules}
use Rattle.xns_spp.proofs.numbers.allowed_by.Goals as goal

pub returns-in-Some : goal.returns-in-Some
returns-in-Some c = search rules
