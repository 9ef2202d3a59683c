-- What `dump` prints of a capture: what the packets in its frames say, each with the number of its frame.
use Rattle.std.specs.Prelude.{◌≡◌, ℕ, Bool, List, [], ◌∷◌, ◌++◌, Option, None}
use Rattle.std.specs.List.{flat_map, list_any}
use Rattle.std.specs.Option.{option_to_list}
use Rattle.xns_captures.specs.Captures.{NumberedPacket, capture_fault, packets_of}
use Rattle.xns_captures.specs.Printing as printing
use Rattle.xns_captures.specs.declared.file_fault.FileFault.{FileFault}
use Rattle.xns_lines.specs.Printouts.{Printout}
use Rattle.xns_dump.specs.Dump.Line.{is_said_refused, said_by_bytes, said_item, said_text}
use Rattle.xns_dump.specs.Flows.{DataPacket, item_number}

-- the data packets that bytes spell, which is at most one
abbrev pub items_of_packet : NumberedPacket → List DataPacket
items_of_packet packet = option_to_list (said_item (said_by_bytes packet.1))

-- the data packets among packets
abbrev pub items_among : List NumberedPacket → List DataPacket
items_among packets = flat_map items_of_packet packets

-- what a packet says, where `number` gives the numbers of items
abbrev pub packet_text : (DataPacket → ℕ) → NumberedPacket → List ℕ
packet_text number packet = said_text packet.0.number number (said_by_bytes packet.1)

abbrev pub is_packet_refused : NumberedPacket → Bool
is_packet_refused packet = is_said_refused (said_by_bytes packet.1)

-- the text of packets behind those data packets
abbrev pub packets_text_from : List DataPacket → List NumberedPacket → List ℕ
packets_text_from earlier [] = []
packets_text_from earlier (packet ∷ packets) =
    packet_text (item_number earlier) packet ++ packets_text_from (earlier ++ items_of_packet packet) packets

abbrev pub packets_text : List NumberedPacket → List ℕ
packets_text packets = packets_text_from [] packets

-- nothing more is printed at the end of the file
abbrev pub packets_text_with_end : List NumberedPacket → ℕ → List ℕ
packets_text_with_end packets part = packets_text packets

abbrev pub packet_end_count : List NumberedPacket → ℕ
packet_end_count packets = 0

-- the text that is printed for a file
abbrev pub dump_capture_text : List ℕ → List ℕ
dump_capture_text file = packets_text (packets_of file)

abbrev pub has_refused_packet : List ℕ → Bool
has_refused_packet file = list_any is_packet_refused (packets_of file)

-- after a fault the text of the packets before it is written
abbrev pub CaptureStopsIn : FileFault → List ℕ → Option (List ℕ) → Option (List ℕ) → Type 0
CaptureStopsIn = printing.StopsIn packets_text_with_end packet_end_count

-- what `dump` makes of a capture
abbrev pub dump_capture_printout : Printout FileFault
dump_capture_printout = record {
  text = dump_capture_text;
  is_refused = has_refused_packet;
  is_good = λ file. capture_fault file ≡ None;
  stops_in = λ file left before after fault. CaptureStopsIn fault file before after;
}
