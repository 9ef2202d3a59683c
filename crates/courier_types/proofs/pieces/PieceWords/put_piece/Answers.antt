use Rattle.std.proofs.Common.{arith}
use Rattle.courier_types.proofs.pieces.PieceWords.put_piece.Goals as goal

pub invariant_of-self : goal.invariant_of-self
invariant_of-self c = omega (arith, c.self.invariant, c.put_front-at.ensures.count)
