-- What a run over an input prints and returns, and where it stops.
use Rattle.std.specs.Prelude.{◌≡◌, Bool, IfSome, List, ℕ, Option, Result, Ok, Err}
use Rattle.std.specs.Io.KnownBytes.{Appends}
use Rattle.xns_lines.specs.Lines.{IsWithinLimits, lines_of}
use Rattle.xns_lines.specs.Printing.{EndCount, StopsIn, TextWithEnd, text_to_end}
use Rattle.xns_lines.specs.declared.fault.RunFault.{RunFault}

-- what a run makes of an input: the text that it prints, whether it says that something was refused, what holds of an input that it reads
-- to its end, and where it stops with a fault, by the input, what is left of it, and what the writer held before and holds after
pub record Printout (F : Type 0) : Type 1 where
  pub text : List ℕ → List ℕ
  pub is_refused : List ℕ → Bool
  pub is_good : List ℕ → Type 0
  pub stops_in : List ℕ → Option (List ℕ) → Option (List ℕ) → Option (List ℕ) → F → Type 0

-- the text of the whole input is written, which is good, and it is said whether something of it was refused
pub record PrintsAll {F : Type 0} (printout : Printout F) (answer : Bool) (before after : Option (List ℕ)) (input : List ℕ) : Type 0 where
  pub text : Appends before after (printout.text input)
  pub refused : answer ≡ printout.is_refused input
  pub good : printout.is_good input

-- the run came to the end of the input, or stopped with a fault
abbrev pub PrintsOf : {F : Type 0} → Printout F → Result Bool F → Option (List ℕ) → Option (List ℕ) → Option (List ℕ) → List ℕ → Type 0
PrintsOf printout (Ok refused) left before after input = PrintsAll printout refused before after input
PrintsOf printout (Err fault) left before after input = printout.stops_in input left before after fault

-- a run of which this is left of the input that was given, where it is known: the writer held `before`, and holds `after`
abbrev pub Prints : {F : Type 0} → Printout F → Result Bool F → Option (List ℕ) → Option (List ℕ) → Option (List ℕ) → Option (List ℕ) → Type 0
Prints printout result given left before after = IfSome given (PrintsOf printout result left before after)

-- what is printed of the lines of an input of at most so many, and of its end
abbrev pub lines_printout : ℕ → TextWithEnd (List ℕ) → (List (List ℕ) → ℕ → Bool) → EndCount (List ℕ) → Printout RunFault
lines_printout most text_of has_refused end_count = record {
  text = λ input. text_to_end text_of end_count (lines_of input);
  is_refused = λ input. has_refused (lines_of input) (end_count (lines_of input));
  is_good = IsWithinLimits most;
  stops_in = StopsIn most text_of end_count;
}
