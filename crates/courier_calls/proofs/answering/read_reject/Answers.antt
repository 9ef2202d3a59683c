use Rattle.std.proofs.Common.{rules}
use Rattle.courier_calls.proofs.answering.read_reject.Goals as goal

pub returns : goal.returns
returns c = search rules
