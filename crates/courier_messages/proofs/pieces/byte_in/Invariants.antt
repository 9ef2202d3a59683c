use Rattle.std.proofs.Common.{◌≡◌, drop, slice_get}
use Rattle.courier_types.specs.Pieces.{joined}
use Rattle.courier_messages.proofs.pieces.byte_in.Given as goal

-- the byte is sought in the pieces that are left
abbrev pub invariant-loop-piece : goal.invariant-loop-piece
invariant-loop-piece l = slice_get (joined (drop l.piece-index l.pieces)) l.left ≡ slice_get (joined l.pieces) l.place
