use Rattle.std.proofs.Common.{◌≡◌, ◌+◌, ◌++◌, drop, length, take}
use Rattle.courier_types.proofs.pieces.PieceWords.put_words.Given as goal

abbrev pub invariant-loop-word : goal.invariant-loop-word
invariant-loop-word l = record {
  so_far : take l.at l.buffer ++ l.source ≡ l.fn.self;
  count : l.at + length l.source ≡ length l.fn.self;
  behind : drop (length l.fn.self) l.buffer ≡ drop (length l.fn.self) l.fn.buffer;
  length : length l.buffer ≡ length l.fn.buffer;
}

abbrev pub decreases-loop-word : goal.decreases-loop-word
decreases-loop-word l = length l.source
