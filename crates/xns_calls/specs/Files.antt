-- What `calls` prints of a capture file: what the packets in its frames bring, each with the number of its frame.
use Rattle.std.specs.Prelude.{◌≡◌, ℕ, zero, suc, Bool, List, [], ◌∷◌, ◌++◌, length, Option}
use Rattle.xns_captures.specs.Captures.{NumberedPacket, packets_of}
use Rattle.xns_captures.specs.Printing as printing
use Rattle.xns_lines.specs.Printing.{text_to_end}
use Rattle.xns_captures.specs.declared.file_fault.FileFault.{FileFault}
use Rattle.xns_calls.specs.Calls.{after_bytes, nothing_known}
use Rattle.xns_calls.specs.Capture.{Keeps, Known, after_end}
use Rattle.xns_calls.specs.Naming.{Programs}
use Rattle.xns_calls.specs.Origins.{frame_origin, line_origin}
use Rattle.xns_calls.specs.declared.origin.Origin.{Origin}
use Rattle.xns_calls.specs.declared.printer.CallsPrinter.{CallsPrinter}
use Rattle.xns_calls.specs.declared.times.Times.{Times}

-- a packet, of which nothing is printed yet
abbrev pub packet_taken : Programs → Times → NumberedPacket → Known → Known
packet_taken programs times packet k = after_bytes (frame_origin programs times packet.0) packet.1 (record k { text = [] })

-- what is known behind packets
abbrev pub known_behind : Programs → Times → Known → List NumberedPacket → Known
known_behind programs times k [] = k
known_behind programs times k (packet ∷ packets) = known_behind programs times (packet_taken programs times packet k) packets

-- the text of packets, behind those that made this known
abbrev pub text_behind : Programs → Times → Known → List NumberedPacket → List ℕ
text_behind programs times k [] = []
text_behind programs times k (packet ∷ packets) = (packet_taken programs times packet k).text ++ text_behind programs times (packet_taken programs times packet k) packets

abbrev pub packets_known : Programs → Times → List NumberedPacket → Known
packets_known programs times packets = known_behind programs times nothing_known packets

abbrev pub packets_text : Programs → Times → List NumberedPacket → List ℕ
packets_text programs times packets = text_behind programs times nothing_known packets

-- ---- the end of the file

-- the frame of the last packet, or this one
abbrev pub last_after : Programs → Times → Origin → List NumberedPacket → Origin
last_after programs times n [] = n
last_after programs times n (packet ∷ packets) = last_after programs times (frame_origin programs times packet.0) packets

abbrev pub last_frame : Programs → Times → List NumberedPacket → Origin
last_frame programs times packets = last_after programs times (line_origin programs 0) packets

-- what is known once all is read that so many connections keep, in the order in which those of their ends first began
abbrev pub packets_known_with_end : Programs → Times → List NumberedPacket → ℕ → Known
packets_known_with_end programs times packets zero = packets_known programs times packets
packets_known_with_end programs times packets (suc part) =
    after_end (last_frame programs times packets) part (record (packets_known_with_end programs times packets part) { text = [] })

-- what is printed once so many connections are read to their end; their lines have the number and the time of the last packet's frame
abbrev pub packets_text_with_end : Programs → Times → List NumberedPacket → ℕ → List ℕ
packets_text_with_end programs times packets zero = packets_text programs times packets
packets_text_with_end programs times packets (suc part) = packets_text_with_end programs times packets part ++ (packets_known_with_end programs times packets (suc part)).text

abbrev pub packets_refused : Programs → Times → List NumberedPacket → ℕ → Bool
packets_refused programs times packets part = (packets_known_with_end programs times packets part).is_refused

-- all that all connections keep is read
abbrev pub packet_end_count : Programs → Times → List NumberedPacket → ℕ
packet_end_count programs times packets = length (packets_known programs times packets).connections

-- ---- the whole

-- what is printed for a file
abbrev pub calls_capture_text : Programs → Times → List ℕ → List ℕ
calls_capture_text programs times file = text_to_end (packets_text_with_end programs times) (packet_end_count programs times) (packets_of file)

-- whether something was refused
abbrev pub has_file_refusal : Programs → Times → List ℕ → Bool
has_file_refusal programs times file = packets_refused programs times (packets_of file) (packet_end_count programs times (packets_of file))

-- the printer has printed these packets, and so many parts of the end
pub record HasPrintedPackets (programs : Programs) (times : Times) (printer : CallsPrinter) (packets : List NumberedPacket) (part : ℕ) : Type 0 where
  pub named : printer.programs ≡ programs
  pub keeps : Keeps printer.capture (packets_known_with_end programs times packets part)
  pub last : printer.last ≡ last_frame programs times packets

-- after a fault the text of the packets before it is written
abbrev pub FileStopsIn : Programs → Times → FileFault → List ℕ → Option (List ℕ) → Option (List ℕ) → Type 0
FileStopsIn programs times = printing.StopsIn (packets_text_with_end programs times) (packet_end_count programs times)
