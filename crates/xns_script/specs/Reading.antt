-- A script that has read lines.
use Rattle.std.specs.Prelude.{◌≡◌, ℕ, List, map, IfNone}
use Rattle.courier_calls.specs.Calls.{call_model}
use Rattle.xns_script.specs.Script.{script_calls, script_events, first_refused}
use Rattle.xns_script.specs.declared.script.Script.{Script}

-- the script has the calls and events of these lines, or the number of the first line that is refused
pub record HasReadLines (script : Script) (lines : List (List ℕ)) : Type 0 where
  pub refused : script.refused ≡ first_refused lines
  pub kept : IfNone script.refused ((map call_model script.calls.items ≡ script_calls lines) × (script.events.items ≡ script_events lines))
