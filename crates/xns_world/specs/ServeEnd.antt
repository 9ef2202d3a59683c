-- What a server's end in the program stands for, and the packets that the end sent.
use Rattle.std.specs.Prelude.{◌≡◌, List, length, map, slice_get, Option, Some, All, ◌≤◌}
use Rattle.courier_calls.specs.Calls.{Serving}
use Rattle.courier_calls.specs.Server as server
use Rattle.courier_calls.specs.Server.{decided_calls, server_items, call_of}
use Rattle.courier_messages.specs.declared.fault.SessionFault.{SessionFault}
use Rattle.courier_messages.specs.declared.fault.SessionFault.TheVariants.{NoMemory, Failed}
use Rattle.xns_spp.specs.Held.{StandsFor}
use Rattle.xns_spp.specs.Item.{IsItem}
use Rattle.xns_spp.specs.State.{State, IsState}
use Rattle.xns_spp.specs.declared.item.Item.{Item}
use Rattle.xns_world.specs.Serve.{first_fault, Served}
use Rattle.xns_world.specs.Settling.{handed_up_by}
use Rattle.xns_world.specs.declared.serving.ServingEnd.{ServingEnd}
use Rattle.xns_spp.specs.Numbers.{most_items}
use Rattle.xns_world.specs.CallLaws.{ServerLaws}
use Rattle.xns_world.specs.declared.serve.ServePlay.{ServePlay}
use Rattle.xns_world.specs.declared.serve_trace.ServeTrace.{ServeTrace}

-- the first of the session's items that the end has not yet accepted
abbrev pub next_item_out : {S : Type 0} → Serving S → S → State → Option Item
next_item_out serving s v = slice_get (server_items serving s (handed_up_by v)) (length v.accepted)

-- the service of the session began in the state s, and the session was fed the items F and has handed out the items P
abbrev pub server_history : {S : Type 0} → S → List Item → List Item → server.ServerHistory S
server_history s F P = record { start = s; fed = F; fetched = P }

-- the session was fed the items F and has handed out the items P; the calls decided and the first fault were noted
pub record IsHearing {S : Type 0} (serving : Serving S) (s : S) (e : ServingEnd S) (F P : List Item) : Type 0 where
  pub session : server.ServerStandsFor serving e.server (server_history s F P)
  pub carried : e.carried.items ≡ map call_of (decided_calls F)
  pub fault : e.fault ≡ first_fault F

-- a server's end that began with its service in the state s stands for v
pub record IsServed {S : Type 0} (serving : Serving S) (s : S) (e : ServingEnd S) (v : State) : Type 0 where
  pub stands : StandsFor e.endpoint v
  pub hearing : IsHearing serving s e (handed_up_by v) v.accepted
  pub listed : e.handed ≡ handed_up_by v
  pub items : All IsItem (handed_up_by v)

-- how a fault that a session returns is noted
abbrev pub fault_noted : SessionFault → Option SessionFault → Option SessionFault → Type 0
fault_noted Failed before after = after ≡ before
fault_noted NoMemory before after = ⊥
fault_noted e before after = after ≡ Some e

-- a server's end, and the packets that it sent
pub record IsServePlaying {S : Type 0} (serving : Serving S) (s : S) (play : ServePlay S) (w : Served) : Type 0 where
  pub b : IsServed serving s play.b w.end
  pub replies : play.replies.items ≡ w.replies

-- where a server's play stood for w, it then stands for what f makes of w
abbrev pub ServeStepsBy : {S : Type 0} → Serving S → ServePlay S → ServePlay S → (S → Served → Served) → Type 0
ServeStepsBy {S} serving before after f = (s : S) (w : Served) → ServerLaws serving s → IsServePlaying serving s before w
    → IsServePlaying serving s after (f s w)

-- the end's numbers keep within their bounds: at most `window` items wait, and at most `backlog` are unacknowledged
pub record HasBoundedEnd {S : Type 0} (t : ServeTrace S) (w : Served) : Type 0 where
  pub end : IsState w.end
  pub handed : length t.handed ≤ most_items
