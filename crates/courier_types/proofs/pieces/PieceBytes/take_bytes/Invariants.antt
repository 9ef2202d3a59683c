use Rattle.std.proofs.Common.{◌≡◌, ◌≤◌, ◌++◌, ◌+◌, drop, length, take, vec_len, vec_capacity}
use Rattle.courier_types.specs.Pieces.{joined}
use Rattle.courier_types.proofs.pieces.PieceBytes.take_bytes.Given as goal

abbrev pub invariant-loop-self : goal.invariant-loop-self
invariant-loop-self l = record {
  taken : l.bytes.items ++ take l.wanted (l.self.front.now ++ joined l.self.later.now) ≡ l.fn.bytes.items ++ take l.count (l.fn.self.front.now ++ joined l.fn.self.later.now);
  left : drop l.wanted (l.self.front.now ++ joined l.self.later.now) ≡ drop l.count (l.fn.self.front.now ++ joined l.fn.self.later.now);
  enough : l.wanted ≤ length (l.self.front.now ++ joined l.self.later.now);
  room : vec_len l.bytes + l.wanted ≤ vec_capacity l.bytes;
}

abbrev pub decreases-loop-self : goal.decreases-loop-self
decreases-loop-self l = length l.self.later.now
