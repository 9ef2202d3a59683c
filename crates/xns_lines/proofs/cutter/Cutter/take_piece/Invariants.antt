use Rattle.std.proofs.Common.{◌≡◌, ◌++◌, ◌+◌, ◌≤◌, List, ℕ, Option, length}
use Rattle.xns_lines.specs.Lines.Cutter.{HasCut, HasTaken, room_of}
use Rattle.xns_lines.proofs.cutter.Cutter.take_piece.Given as goal

-- the cutter has also taken the front of the piece
abbrev pub invariant-loop-end : goal.invariant-loop-end
invariant-loop-end g l =
    let contents = g.W.Write.contents in
    let stands = g.T.LineTaker.stands in
    (front : List ℕ) × (front ++ l.rest ≡ l.piece)
    × ((most : ℕ) (taken : List ℕ) (before : Option (List ℕ)) → HasTaken most l.initial.self (stands l.initial.taker before (contents l.initial.writer)) taken
    → HasTaken most l.self (stands l.taker before (contents l.writer)) (taken ++ front))
    × ((most : ℕ) (taken : List ℕ) → HasCut most l.initial.self taken → HasCut most l.self (taken ++ front))
    × (room_of l.self + length front ≤ room_of l.initial.self)
    × (l.self.most ≡ l.initial.self.most)

abbrev pub decreases-loop-end : goal.decreases-loop-end
decreases-loop-end g l = length l.rest
