-- What `dump` prints, as a function of the bytes read, and what it has written after a fault.
pub mod Capture
pub mod Digits
pub mod Line
use Rattle.std.specs.Prelude.{ℕ, ◌+◌, Bool, List, [], ◌∷◌, ◌++◌, Option}
use Rattle.std.specs.List.{flat_map, list_any}
use Rattle.std.specs.Option.{option_to_list}
use Rattle.xns_dump.specs.Dump.Line.{is_refused, item_of_line, text_of_line}
use Rattle.xns_dump.specs.Flows.{DataPacket, item_number}
use Rattle.xns_lines.specs.Lines.{IsWithinLimits, lines_of, most_lines}
use Rattle.xns_lines.specs.Printing as printing
use Rattle.xns_lines.specs.Printouts.{Printout}
use Rattle.xns_lines.specs.declared.fault.RunFault.{RunFault}

-- the data packets that a line spells, which is at most one
abbrev pub items_of_line : List ℕ → List DataPacket
items_of_line line = option_to_list (item_of_line line)

-- the data packets of lines
abbrev pub items_in : List (List ℕ) → List DataPacket
items_in lines = flat_map items_of_line lines

-- the text of lines of which the first has number n, behind those data packets
abbrev pub text_from : ℕ → List DataPacket → List (List ℕ) → List ℕ
text_from n earlier [] = []
text_from n earlier (line ∷ lines) = text_of_line n (item_number earlier) line ++ text_from (n + 1) (earlier ++ items_of_line line) lines

abbrev pub text_of : List (List ℕ) → List ℕ
text_of lines = text_from 1 [] lines

-- the text that is printed for an input
abbrev pub dump_text : List ℕ → List ℕ
dump_text input = text_of (lines_of input)

abbrev pub has_refused_line : List ℕ → Bool
has_refused_line input = list_any is_refused (lines_of input)

-- nothing more is printed at the end of the input
abbrev pub text_with_end : List (List ℕ) → ℕ → List ℕ
text_with_end lines part = text_of lines

abbrev pub end_count : List (List ℕ) → ℕ
end_count lines = 0

-- after a fault the text of the lines before it is written
abbrev pub StopsIn : List ℕ → Option (List ℕ) → Option (List ℕ) → Option (List ℕ) → RunFault → Type 0
StopsIn = printing.StopsIn most_lines text_with_end end_count

-- what `dump` makes of an input
abbrev pub dump_printout : Printout RunFault
dump_printout = record { text = dump_text; is_refused = has_refused_line; is_good = IsWithinLimits most_lines; stops_in = StopsIn }
