-- What `sim` prints, as a function of the bytes read, and what it has written after a fault.
pub mod Play
pub mod Script
pub mod Trace
use Rattle.std.specs.Prelude.{◌≡◌, ℕ, Bool, List, ◌++◌, codes, is_some, map, Option, Some, None}
use Rattle.std.specs.Fmt.{decimal}
use Rattle.std.specs.Io.KnownBytes.{Consumes}
use Rattle.courier_calls.specs.Calls.{CallModel}
use Rattle.xns_script.specs.Script.{script_calls, script_events, first_refused}
use Rattle.item_world.specs.declared.event.Event.{Event}
use Rattle.xns_lines.specs.Faults.{AppendsPart, FaultyLines}
use Rattle.xns_lines.specs.Lines.{IsWithinLimits, lines_of, most_lines, without_return}
use Rattle.xns_lines.specs.Printouts.{Printout}
use Rattle.xns_sim.specs.Sim.Play.{play_text}
use Rattle.xns_lines.specs.declared.fault.RunFault.{RunFault}
use Rattle.xns_lines.specs.declared.fault.RunFault.TheVariants as fault

-- the first line that is refused, alone, or else the play
abbrev pub refusal_or_play : Option ℕ → List CallModel → List Event → List ℕ
refusal_or_play (Some n) calls events = decimal n ++ codes " refused\n"
refusal_or_play None calls events = play_text calls events

unfoldable pub script_text : List (List ℕ) → List ℕ
script_text lines = refusal_or_play (first_refused lines) (script_calls lines) (script_events lines)

-- the lines of a script, each without one carriage return at its end
abbrev pub script_lines : List ℕ → List (List ℕ)
script_lines input = map without_return (lines_of input)

-- the text that is printed for an input
abbrev pub sim_text : List ℕ → List ℕ
sim_text input = script_text (script_lines input)

-- whether a line of the input is refused
abbrev pub is_script_refused : List ℕ → Bool
is_script_refused input = is_some (first_refused (script_lines input))

-- ---- after a fault

-- after a failed write a prefix of the whole input's text is written and not all of it, and after any other fault nothing
abbrev pub LeavesWritten : RunFault → List ℕ → Option (List ℕ) → Option (List ℕ) → Type 0
LeavesWritten fault.Write input before after = AppendsPart before after (sim_text input)
LeavesWritten _ input before after = after ≡ before

-- `read` is the front of the input, up to what is left of it, and its lines show the fault
pub record SimStopsIn (input : List ℕ) (left before after : Option (List ℕ)) (f : RunFault) : Type 0 where
  pub read : List ℕ
  pub consumed : Consumes (Some input) left read
  pub lines : FaultyLines most_lines f read
  pub written : LeavesWritten f input before after

-- what `sim` makes of an input
abbrev pub sim_printout : Printout RunFault
sim_printout = record { text = sim_text; is_refused = is_script_refused; is_good = IsWithinLimits most_lines; stops_in = SimStopsIn }
