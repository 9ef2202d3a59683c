use Rattle.std.proofs.Common.{rules}
use Rattle.courier_messages.proofs.cutting.head_item.Goals as goal

pub returns : goal.returns
returns c = search rules
