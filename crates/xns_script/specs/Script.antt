-- What the lines of a simulation say together.
use Rattle.std.specs.Prelude.{ℕ, ◌+◌, List, [], ◌∷◌, Option, Some, None}
use Rattle.std.specs.List.{flat_map}
use Rattle.courier_calls.specs.Calls.{CallModel}
use Rattle.item_world.specs.declared.event.Event.{Event}
use Rattle.xns_script.specs.Command.{CommandModel, calls, command_of, happens, skips}

abbrev pub command_call : Option CommandModel → List CallModel
command_call (Some (calls c)) = c ∷ []
command_call (Some (happens e)) = []
command_call (Some skips) = []
command_call None = []

abbrev pub command_event : Option CommandModel → List Event
command_event (Some (happens e)) = e ∷ []
command_event (Some (calls c)) = []
command_event (Some skips) = []
command_event None = []

-- the calls of a script in order, wherever their lines stand
abbrev pub script_calls : List (List ℕ) → List CallModel
script_calls lines = flat_map (λ line. command_call (command_of line)) lines

-- the events of a script in order
abbrev pub script_events : List (List ℕ) → List Event
script_events lines = flat_map (λ line. command_event (command_of line)) lines

abbrev pub refused_or : ℕ → Option CommandModel → Option ℕ → Option ℕ
refused_or n None later = Some n
refused_or n (Some c) later = later

-- the number of the first line that is refused; the first of the lines has number n
abbrev pub refused_from : ℕ → List (List ℕ) → Option ℕ
refused_from n [] = None
refused_from n (line ∷ lines) = refused_or n (command_of line) (refused_from (n + 1) lines)

abbrev pub first_refused : List (List ℕ) → Option ℕ
first_refused lines = refused_from 1 lines
