use Rattle.courier_types.proofs.Joined.{next_is_dropped}
use Rattle.courier_types.proofs.pieces.PieceWords.skip_each.Goals as goal

pub loop-preserved : goal.loop-preserved
loop-preserved c = next_is_dropped c.args.self.now c.loop.counter c.loop.self c.next_word.new.self c.next_word.result c.next_word.ensures c.loop.invariant
