use Rattle.std.proofs.Common.{rules}
use Rattle.xns_spp.proofs.near.nearest.Goals as goal

pub returns-clause-value : goal.returns-clause-value
returns-clause-value c = search rules

pub returns-clause-is : goal.returns-clause-is
returns-clause-is c = search rules

pub returns-clause-only : goal.returns-clause-only
returns-clause-only c = search rules
