-- What the command of each mode makes of a file, which is a capture or has lines.
use Rattle.std.specs.Prelude.{Bool, true, List, ℕ, Option}
use Rattle.xns_calls.specs.Naming.{Programs}
use Rattle.xns_calls.specs.Printouts.{calls_capture_printout}
use Rattle.xns_calls.specs.declared.times.Times.{Times}
use Rattle.xns_captures.specs.Parts.{is_capture}
use Rattle.xns_captures.specs.declared.file_fault.FileFault.{FileFault}
use Rattle.xns_captures.specs.declared.file_fault.FileFault.TheVariants.{Run}
use Rattle.xns_command.specs.Commands.{mode_printout}
use Rattle.xns_command.specs.declared.mode.Mode.{Mode}
use Rattle.xns_command.specs.declared.mode.Mode.TheVariants.{Calls, Dump}
use Rattle.xns_dump.specs.Dump.Capture.{dump_capture_printout}
use Rattle.xns_lines.specs.Printouts.{Printout}
use Rattle.xns_lines.specs.declared.fault.RunFault.{RunFault}

-- after a fault of lines
abbrev pub StopsInLines : Printout RunFault → List ℕ → Option (List ℕ) → Option (List ℕ) → Option (List ℕ) → FileFault → Type 0
StopsInLines printout file left before after (Run fault) = printout.stops_in file left before after fault
StopsInLines printout file left before after _ = ⊥

-- what is made of a file that has lines
abbrev pub lines_in_file : Printout RunFault → Printout FileFault
lines_in_file printout = record {
  text = printout.text;
  is_refused = printout.is_refused;
  is_good = printout.is_good;
  stops_in = StopsInLines printout;
}

-- what is made of a file that is a capture, or has lines; a script of `sim` has lines always, and lines have no times
abbrev pub printout_as : Programs → Bool → Times → Mode → Printout FileFault
printout_as programs true times Dump = dump_capture_printout
printout_as programs true times Calls = calls_capture_printout programs times
printout_as programs _ times mode = lines_in_file (mode_printout programs mode)

-- what is made of a file, which is a capture where its first bytes are those of one; after a fault, with some of the file left
abbrev pub file_printout : Programs → Times → Mode → Printout FileFault
file_printout programs times mode = record {
  text = λ file. (printout_as programs (is_capture file) times mode).text file;
  is_refused = λ file. (printout_as programs (is_capture file) times mode).is_refused file;
  is_good = λ file. (printout_as programs (is_capture file) times mode).is_good file;
  stops_in = λ file given before after fault.
      (left : Option (List ℕ)) × (printout_as programs (is_capture file) times mode).stops_in file left before after fault;
}
