use Rattle.std.proofs.Common.{◌≡◌, [], List, ℕ, Option}
use Rattle.std.specs.Io.KnownBytes.{Consumes}
use Rattle.xns_lines.specs.Lines.Cutter.{HasCut, room_of}
use Rattle.xns_lines.specs.Lines.{closed_lines}
use Rattle.xns_lines.proofs.taking.take_lines.Given as goal

-- the cutter has taken what was read
abbrev pub invariant-loop-count : goal.invariant-loop-count
invariant-loop-count g l =
    let remaining = g.R.Read.remaining in
    let contents = g.W.Write.contents in
    let stands = g.T.LineTaker.stands in
    (read : List ℕ) × Consumes (remaining l.fn.reader) (remaining l.reader) read
    × HasCut l.most l.cutter read × ((before : Option (List ℕ)) → stands l.fn.taker before (contents l.fn.writer) [] → stands l.taker before (contents l.writer) (closed_lines read))
    × (l.cutter.most ≡ l.most)

abbrev pub decreases-loop-count : goal.decreases-loop-count
decreases-loop-count g l = room_of l.cutter
