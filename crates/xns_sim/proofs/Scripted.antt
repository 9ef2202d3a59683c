-- What stands once a script has read an input up to a fault.
use Rattle.std.proofs.Common.{refl, ℕ, List, [], Option, Some}
use Rattle.std.specs.Prelude.{IfSome}
use Rattle.std.specs.Io.KnownBytes.{Consumes}
use Rattle.std.proofs.lemmas.Option.{IfSome_then}
use Rattle.xns_script.specs.Reading.{HasReadLines}
use Rattle.xns_sim.specs.declared.script_taker.ScriptTaker.{ScriptTaker}
use Rattle.xns_lines.specs.Lines.{most_lines}
use Rattle.xns_lines.specs.Lines.Cutter.{StandsAfter, StopsShort}
use Rattle.xns_sim.specs.Sim.{LeavesWritten, SimStopsIn}
use Rattle.xns_sim.specs.Sim.Script.{never_fails, stands_for}
use Rattle.xns_lines.specs.declared.fault.RunFault.{RunFault}
use Rattle.xns_lines.specs.declared.fault.RunFault.TheVariants as fault

-- the script has read the input up to a fault
abbrev pub TakesSome : Option (List ℕ) → Option (List ℕ) → Option (List ℕ) → ScriptTaker → ScriptTaker → RunFault → List ℕ → Type 0
TakesSome left first mid t0 t f input = (read : List ℕ) × Consumes (Some input) left read
    × ((before : Option (List ℕ)) → stands_for t0 before first [] → StopsShort most_lines f read (StandsAfter f (stands_for t before mid) (never_fails t before mid)))

nothing_left : (f : RunFault) (t : ScriptTaker) (input : List ℕ) (first mid : Option (List ℕ)) (lines : List (List ℕ)) → StandsAfter f (stands_for t first mid) (never_fails t first mid) lines → LeavesWritten f input first mid
nothing_left fault.Read t input first mid lines h = h.1
nothing_left fault.Write t input first mid lines h = absurd h
nothing_left fault.LineTooLong t input first mid lines h = h.1
nothing_left fault.TooManyLines t input first mid lines h = h.1
nothing_left fault.NoMemory t input first mid lines h = h.1

pub some_read : (start left first mid : Option (List ℕ)) (t0 t : ScriptTaker) (f : RunFault) → HasReadLines t0.script [] → IfSome start (TakesSome left first mid t0 t f) → IfSome start (λ input. SimStopsIn input left first mid f)
some_read start left first mid t0 t f new some = IfSome_then start some (λ input h.
    let said = h.2 first (new, refl) in
    record {
      read = h.0;
      consumed = h.1;
      lines = said.lines;
      written = nothing_left f t input first mid said.lines.good said.is_left;
    })
