use Rattle.std.proofs.Common.{◌≤◌, ◌-◌, List, ℕ, Option, length, drop}
use Rattle.xns_captures.specs.Reading.{HasRead}
use Rattle.xns_captures.proofs.reading.Reading.take_parts.Given as goal

-- the first bytes were taken
abbrev pub invariant-parts : goal.invariant-parts
invariant-parts g l =
    let stands = g.T.PacketTaker.stands in
    let contents = g.W.Write.contents in
    (l.taken ≤ length l.bytes)
    × ((read : List ℕ) (before : Option (List ℕ))
    → HasRead l.initial.self read l.bytes (stands l.initial.taker before (contents l.initial.writer))
    → HasRead l.self read (drop l.taken l.bytes) (stands l.taker before (contents l.writer)))

abbrev pub decreases-parts : goal.decreases-parts
decreases-parts g l = length l.bytes - l.taken
