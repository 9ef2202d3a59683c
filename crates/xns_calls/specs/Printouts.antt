-- What `calls` makes of an input, and of a capture.
use Rattle.std.specs.Prelude.{◌≡◌, None}
use Rattle.xns_lines.specs.Lines.{IsWithinLimits}
use Rattle.xns_lines.specs.Printouts.{Printout}
use Rattle.xns_lines.specs.declared.fault.RunFault.{RunFault}
use Rattle.xns_captures.specs.Captures.{capture_fault}
use Rattle.xns_captures.specs.declared.file_fault.FileFault.{FileFault}
use Rattle.xns_calls.specs.Calls.{StopsIn, calls_text, has_refusal, most_numbered_lines}
use Rattle.xns_calls.specs.Files.{FileStopsIn, calls_capture_text, has_file_refusal}
use Rattle.xns_calls.specs.Naming.{Programs}
use Rattle.xns_calls.specs.declared.times.Times.{Times}

-- what `calls` makes of an input, by the programs that name calls
abbrev pub calls_printout : Programs → Printout RunFault
calls_printout programs = record {
  text = calls_text programs;
  is_refused = has_refusal programs;
  is_good = IsWithinLimits most_numbered_lines;
  stops_in = StopsIn programs;
}

-- what `calls` makes of a capture
abbrev pub calls_capture_printout : Programs → Times → Printout FileFault
calls_capture_printout programs times = record {
  text = calls_capture_text programs times;
  is_refused = has_file_refusal programs times;
  is_good = λ file. capture_fault file ≡ None;
  stops_in = λ file left before after fault. FileStopsIn programs times fault file before after;
}
