use Rattle.courier_messages.proofs.Heads.{head_read, odd_message}
use Rattle.courier_messages.proofs.front.read_head_in.Goals as goal

pub returns-then-len-skipped-eq1 : goal.returns-then-len-skipped-eq1
returns-then-len-skipped-eq1 c = odd_message c.args.skipped c.args.pieces.now c.requires.skipped (rw c.len.ensures at c.if-len-skipped-eq1.true)

pub returns : goal.returns
returns c = head_read c.read_head.result c.args.skipped c.args.pieces.now _ c.requires.skipped (rw c.len.ensures at c.if-len-skipped-eq1.false) c.requires.size (rw c.words_behind-words.ensures at c.read_head.ensures)
