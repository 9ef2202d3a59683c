-- A script that takes the lines of an input.
use Rattle.std.specs.Prelude.{◌≡◌, ℕ, List, Option, Some, map}
use Rattle.std.specs.Io.KnownBytes.{Consumes}
use Rattle.xns_lines.specs.Lines.{IsWithinLimits, lines_of, most_lines, without_return}
use Rattle.xns_script.specs.Reading.{HasReadLines}
use Rattle.xns_script.specs.declared.script.Script.{Script}
use Rattle.xns_sim.specs.declared.script_taker.ScriptTaker.{ScriptTaker}

-- the script has read these lines, each without a carriage return at its end, and nothing was written
abbrev pub stands_for : ScriptTaker → Option (List ℕ) → Option (List ℕ) → List (List ℕ) → Type 0
stands_for taker before after lines = HasReadLines taker.script (map without_return lines) × (after ≡ before)

-- a script never writes
abbrev pub never_fails : ScriptTaker → Option (List ℕ) → Option (List ℕ) → List (List ℕ) → Type 0
never_fails taker before after lines = ⊥

-- the script has read the whole input, and nothing was written
pub record HasReadAll (script : Script) (input : List ℕ) (left before after : Option (List ℕ)) : Type 0 where
  pub consumed : Consumes (Some input) left input
  pub within : IsWithinLimits most_lines input
  pub read : HasReadLines script (map without_return (lines_of input))
  pub unwritten : after ≡ before
