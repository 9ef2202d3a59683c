use Rattle.std.proofs.Common.{rules}
use Rattle.xns_small.proofs.appending.append.Goals as goal

pub returns-clause-err : goal.returns-clause-err
returns-clause-err c = search rules
