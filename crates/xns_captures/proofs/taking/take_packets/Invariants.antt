use Rattle.std.proofs.Common.{◌≡◌, ◌<◌, [], List, ℕ, Option, length}
use Rattle.std.specs.Io.KnownBytes.{Consumes}
use Rattle.xns_captures.specs.Captures.{contents, ends_with}
use Rattle.xns_captures.specs.Parts.{most_block_bytes}
use Rattle.xns_captures.specs.Reading.{HasRead, end_in}
use Rattle.xns_captures.proofs.taking.take_packets.Given as goal

-- the parts that are whole were taken of what was read, and what is kept is no whole part
abbrev pub invariant-file : goal.invariant-file
invariant-file g l =
    let remaining = g.R.Read.remaining in
    let stands = g.T.PacketTaker.stands in
    let holds = g.W.Write.contents in
    (read : List ℕ) × Consumes (remaining l.fn.reader) (remaining l.reader) read
    × ((before : Option (List ℕ)) → stands l.fn.taker before (holds l.fn.writer) [] → HasRead l.reading read l.window.bytes (stands l.taker before (holds l.writer)))
    × (contents l.reading.format l.reading.interfaces.items l.window.bytes ≡ ends_with (end_in l.reading.format l.window.bytes))
    × (length l.window.bytes < most_block_bytes)
