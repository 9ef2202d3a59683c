use Rattle.std.proofs.Common.{rules}
use Rattle.courier_messages.proofs.head.Head.put.Goals as goal

pub returns-in-Abort-clause-items : goal.returns-in-Abort-clause-items
returns-in-Abort-clause-items c = search rules
