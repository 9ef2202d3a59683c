use Rattle.courier_messages.proofs.Fronts.{head_at}
use Rattle.courier_messages.proofs.front.head_alone.Goals as goal

pub returns : goal.returns
returns c = head_at c.read_head.result c.args.bytes.now _ c.if-bytes-eq1.false c.requires (rw c.of_bytes-words.ensures at c.read_head.ensures)
