use Rattle.std.proofs.Common.{rules}
use Rattle.xns_calls.proofs.queue.Queue.take_due.Goals as goal

pub returns-in-Some-clause-some : goal.returns-in-Some-clause-some
returns-in-Some-clause-some c = search rules
