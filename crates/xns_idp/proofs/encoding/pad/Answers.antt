use Rattle.std.proofs.Common.{rules}
use Rattle.xns_idp.proofs.encoding.pad.Goals as goal

pub returns-in_ok-push-clause-items : goal.returns-in_ok-push-clause-items
returns-in_ok-push-clause-items c = search rules
