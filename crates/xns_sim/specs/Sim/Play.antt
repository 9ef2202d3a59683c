-- The play of a script's calls and events.
use Rattle.std.specs.Prelude.{ℕ, List, [], ◌∷◌, length, map}
use Rattle.courier_calls.specs.Calls.{CallModel, raw}
use Rattle.courier_calls.specs.Tally.{tally}
use Rattle.xns_idp.specs.declared.address.Address.{Address}
use Rattle.xns_world.specs.CallWorld.{CallWorld, Parties, carried_at, run_calls, seen_at, service_at}
use Rattle.item_world.specs.World.{sent_packets}
use Rattle.item_world.specs.declared.event.Event.{Event}
use Rattle.item_world.specs.declared.setup.Setup.{Setup}
use Rattle.xns_sim.specs.Sim.Trace.{trace_text}

-- the caller: 00000001.0000aa000304.0400
abbrev pub caller_address : Address
caller_address = record { network = 1; host = 0 ∷ 0 ∷ 170 ∷ 0 ∷ 3 ∷ 4 ∷ []; socket = 1024 }

-- the server: 00000001.0000aa000102.0005
abbrev pub server_address : Address
server_address = record { network = 1; host = 0 ∷ 0 ∷ 170 ∷ 0 ∷ 1 ∷ 2 ∷ []; socket = 5 }

-- the identifiers are 1234 and 5678 in hex
abbrev pub script_setup : Setup
script_setup = record { a = caller_address; b = server_address; a_id = 4660; b_id = 22136; window = 4; backlog = 16 }

-- the server has a new tally
abbrev pub script_parties : List CallModel → Parties ℕ
script_parties calls = record { serving = tally; service = 0; calls = map raw calls }

abbrev pub world_text : Parties ℕ → CallWorld → List ℕ
world_text p w = trace_text (length p.calls) (length (carried_at w)) (seen_at p w) (service_at p w) (length (sent_packets w.world))

-- the text that is printed of these calls, when these events happen
unfoldable pub play_text : List CallModel → List Event → List ℕ
play_text calls events = world_text (script_parties calls) (run_calls (script_parties calls) script_setup events)
