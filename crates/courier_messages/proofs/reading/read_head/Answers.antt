use Rattle.std.proofs.Common.{rules}
use Rattle.courier_messages.proofs.reading.read_head.Goals as goal

pub returns-in-3 : goal.returns-in-3
returns-in-3 g c = search rules
