-- A server's end that is given whatever packets.
use Rattle.std.specs.Prelude.{◌≡◌, ℕ, List, [], ◌++◌, map, fold, Option, Some, None, Result, Ok, Err}
use Rattle.std.specs.Option.{option_to_list}
use Rattle.courier_calls.specs.Calls.{Serving, last_state, raw_call}
use Rattle.courier_messages.specs.Conversation.{Phase}
use Rattle.courier_calls.specs.Server.{decided_calls, server_state, call_of}
use Rattle.courier_messages.specs.declared.fault.SessionFault.{SessionFault}
use Rattle.courier_messages.specs.Called.{server_ending}
use Rattle.xns_spp.specs.Receiving.{receive_answer, after_receive}
use Rattle.xns_spp.specs.Sending.{flush_answer, after_flush}
use Rattle.xns_spp.specs.State.{State}
use Rattle.xns_spp.specs.declared.item.Item.{Item}
use Rattle.xns_world.specs.Settling.{handed_up_by, stepped_out, serve_step}
use Rattle.xns_world.specs.declared.serve_trace.ServeTrace.{ServeTrace}
use Rattle.item_world.specs.declared.setup.Setup.{Setup}
use Rattle.item_world.specs.World.{start}

-- the end, and every packet that it sent
pub record Served : Type 0 where
  pub end : State
  pub replies : List (List ℕ)

-- the end goes on as v, and these packets are sent
abbrev pub answers_by : Served → State → List (List ℕ) → Served
answers_by w v packets = record { end = v; replies = w.replies ++ packets }

-- the end takes the steps of a server until none applies, and then flushes
abbrev pub settles_from : Served → State → Served
settles_from w v = answers_by w (after_flush v) (flush_answer v)

abbrev pub serve_settles : {S : Type 0} → Serving S → S → Served → Served
serve_settles serving s w = settles_from w (stepped_out (serve_step serving s) w.end)

-- a packet, of the connection or not, comes to the end, and the reply to it, if one is owed, is sent
abbrev pub serve_receives : Served → List ℕ → Served
serve_receives w b = answers_by w (after_receive w.end b) (option_to_list (receive_answer w.end b).reply)

abbrev pub serve_hears : {S : Type 0} → Serving S → S → Served → List ℕ → Served
serve_hears serving s w b = serve_settles serving s (serve_receives w b)

-- the server's end of a connection that begins in this setup
abbrev pub serve_start : Setup → Served
serve_start setup = record { end = (start setup).b; replies = [] }

-- a server's end settles before the first packet and after each one
abbrev pub serve : {S : Type 0} → Serving S → S → Setup → List (List ℕ) → Served
serve serving s setup packets = fold (serve_hears serving s) (serve_settles serving s (serve_start setup)) packets

-- ---- the trace of a server's end

abbrev pub fault_of_ending : Result Phase SessionFault → Option SessionFault
fault_of_ending (Ok p) = None
fault_of_ending (Err e) = Some e

-- the first fault of a server that is fed these items
abbrev pub first_fault : List Item → Option SessionFault
first_fault F = fault_of_ending (server_ending F)

-- the trace is that of the end
pub record IsServeTrace {S : Type 0} (serving : Serving S) (s : S) (t : ServeTrace S) (w : Served) : Type 0 where
  pub handed : t.handed ≡ handed_up_by w.end
  pub carried : t.carried.items ≡ map call_of (decided_calls (handed_up_by w.end))
  pub fault : t.fault ≡ first_fault (handed_up_by w.end)
  pub replies : t.replies.items ≡ w.replies
  pub service : t.service ≡ server_state serving s (handed_up_by w.end)

-- the calls carried are those of the conversation that was handed up, before its first fault or message that is not a call, their
-- arguments raw; the service is as these calls leave it; and the fault is the first one
pub record IsOfConversation {S : Type 0} (serving : Serving S) (s : S) (t : ServeTrace S) : Type 0 where
  pub carried : t.carried.items ≡ map call_of (decided_calls t.handed)
  pub service : t.service ≡ last_state serving s (map raw_call t.carried.items)
  pub fault : t.fault ≡ first_fault t.handed
