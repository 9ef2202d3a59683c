use Rattle.std.proofs.Common.{◌≡◌, ◌≤◌, ◌+◌, ◌++◌, drop, length, take}
use Rattle.courier_types.specs.Pieces.{joined, words_of}
use Rattle.courier_types.proofs.pieces.PieceBytes.put_front.Given as goal

abbrev pub invariant-loop-rest : goal.invariant-loop-rest
invariant-loop-rest l = record {
  so_far : take l.at l.buffer ++ words_of (l.rest ++ joined l.fn.self.later.now) ≡ take l.from l.fn.buffer ++ words_of (l.fn.self.front.now ++ joined l.fn.self.later.now);
  count : l.at + length (words_of (l.rest ++ joined l.fn.self.later.now)) ≡ l.from + length (words_of (l.fn.self.front.now ++ joined l.fn.self.later.now));
  behind : drop (l.from + length (words_of (l.fn.self.front.now ++ joined l.fn.self.later.now))) l.buffer ≡ drop (l.from + length (words_of (l.fn.self.front.now ++ joined l.fn.self.later.now))) l.fn.buffer;
  onwards : l.from ≤ l.at;
  length : length l.buffer ≡ length l.fn.buffer;
}

abbrev pub decreases-loop-rest : goal.decreases-loop-rest
decreases-loop-rest l = length l.rest
