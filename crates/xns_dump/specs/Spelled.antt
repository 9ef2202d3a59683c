-- Lines that spell the packets of a capture, and other lines among them.
use Rattle.std.specs.Prelude.{◌≡◌, ◌⊎◌, ℕ, ◌+◌, ◌&&◌, Bool, true, false, if◌then◌else◌, is_ok, List, [], ◌∷◌, ◌++◌, Ok}
use Rattle.std.specs.List.{list_any}
use Rattle.hex.specs.Hex.{decode_of}
use Rattle.xns_captures.specs.Captures.{NumberedPacket, packets_of}
use Rattle.xns_dump.specs.Dump.{items_of_line}
use Rattle.xns_dump.specs.Dump.Line.{digits_of, is_refused, text_of_line}
use Rattle.xns_dump.specs.Flows.{DataPacket, item_number}
use Rattle.xns_lines.specs.Lines.{lines_of}

-- line n spells the packet, whose frame has that number
abbrev pub Spells : ℕ → List ℕ → NumberedPacket → Type 0
Spells n line packet = (packet.0.number ≡ n) × (decode_of (digits_of line) ≡ Ok packet.1)

-- each of the lines, of which the first has number n, spells the packet of its number, or `IsOther` holds of it; the last line spells the
-- last packet
abbrev pub SpellFrom : (List ℕ → Type 0) → ℕ → List (List ℕ) → List NumberedPacket → Type 0
SpellFrom IsOther n [] [] = Unit {0}
SpellFrom IsOther n (line ∷ lines) (packet ∷ packets) =
    (Spells n line packet × SpellFrom IsOther (n + 1) lines packets) ⊎ (IsOther line × SpellFrom IsOther (n + 1) lines (packet ∷ packets))
SpellFrom IsOther n _ _ = ⊥

-- the input spells each packet of the file in the line of its frame's number; `IsOther` holds of each other line before that of the last packet,
-- and no line stands behind that one
abbrev pub SpellsPackets : (List ℕ → Type 0) → List ℕ → List ℕ → Type 0
SpellsPackets IsOther input file = SpellFrom IsOther 1 (lines_of input) (packets_of file)

-- the line is hex
abbrev pub is_hex : List ℕ → Bool
is_hex line = is_ok (decode_of (digits_of line))

abbrev pub IsNoHex : List ℕ → Type 0
IsNoHex line = is_hex line ≡ false

abbrev pub AreHex : List (List ℕ) → Type 0
AreHex [] = Unit {0}
AreHex (line ∷ lines) = (is_hex line ≡ true) × AreHex lines

-- the text of lines of which the first has number n, behind those data packets, without that of lines that are no hex
abbrev pub hex_text_from : ℕ → List DataPacket → List (List ℕ) → List ℕ
hex_text_from n earlier [] = []
hex_text_from n earlier (line ∷ lines) =
    (if is_hex line then text_of_line n (item_number earlier) line else []) ++ hex_text_from (n + 1) (earlier ++ items_of_line line) lines

-- the text that is printed for an input, without that of lines that are no hex
abbrev pub hex_text : List ℕ → List ℕ
hex_text input = hex_text_from 1 [] (lines_of input)

-- whether a line of hex is refused
abbrev pub has_refused_hex : List ℕ → Bool
has_refused_hex input = list_any (λ line. is_hex line && is_refused line) (lines_of input)
