-- The bounds of a server's end and of its session, and the promises on the end, whatever packets come.
use Rattle.std.specs.Prelude.{◌≡◌, ◌≤◌, ℕ, List, length, drop, Ok, Some, None, All}
use Rattle.courier_messages.specs.RawCalls.{RawCall}
use Rattle.courier_calls.specs.Calls.{Serving, decision, HasWords}
use Rattle.courier_messages.specs.Conversation.{Phase}
use Rattle.courier_calls.specs.Answers.{answer_message}
use Rattle.courier_messages.specs.Message.{most_bytes}
use Rattle.courier_messages.specs.Bounds.{IsWithinMessage, bytes_in}
use Rattle.courier_messages.specs.Laws.{IsShort}
use Rattle.courier_messages.specs.Called.{server_ending}
use Rattle.courier_calls.specs.Server.{server_items, server_state}
use Rattle.xns_spp.specs.State.{State, IsState}
use Rattle.xns_spp.specs.declared.item.Item.{Item}
use Rattle.xns_world.specs.Serve.{Served, serve}
use Rattle.xns_world.specs.ServeEnd.{next_item_out}
use Rattle.xns_world.specs.Settling.{handed_up_by, serve_step, after_steps, stepped_out}
use Rattle.item_world.specs.Setup.{IsSetup, IsGood}
use Rattle.item_world.specs.declared.setup.Setup.{Setup}
use Rattle.xns_idp.specs.Packet.{AreBytes}
use Rattle.xns_spp.specs.Item.{IsItem}

-- the items that the session has put out and its end has not accepted yet
abbrev pub items_out : {S : Type 0} → Serving S → S → State → List Item
items_out serving s v = drop (length v.accepted) (server_items serving s (handed_up_by v))

-- the bodies of the items that are out have at most 131,072 bytes, all together
abbrev pub IsOutShort : {S : Type 0} → Serving S → S → State → Type 0
IsOutShort serving s v = length (bytes_in (items_out serving s v)) ≤ most_bytes

pub record IsServedWithin {S : Type 0} (serving : Serving S) (s : S) (w : Served) : Type 0 where
  -- at most `window` items wait or are early, and at most `backlog` are unacknowledged
  pub end : IsState w.end
  -- where the end's session has met no fault, the session keeps fewer than four bytes of the versions, or at most
  -- 131,072 bytes of an incoming message
  pub kept : (p : Phase) → server_ending (handed_up_by w.end) ≡ Ok p → IsWithinMessage p
  -- the answer to whatever call the session decides next has at most 131,072 bytes
  pub answer : (transaction : ℕ) (call : RawCall) → HasWords call
      → IsShort (answer_message transaction (decision serving (server_state serving s (handed_up_by w.end)) call))
  -- while an item is out, a step of the end hands no other up to the session, so no call is decided
  pub alone : (x : Item) (v : State) → next_item_out serving s w.end ≡ Some x → serve_step serving s w.end ≡ Some v
      → handed_up_by v ≡ handed_up_by w.end
  -- the items that are out have at most 131,072 bytes, all together
  pub out : IsOutShort serving s w.end

-- an end that settles comes to where no step applies
abbrev pub ServedEndsSettle : {S : Type 0} → Serving S → (S → Type 0) → Type 0
ServedEndsSettle {S} serving IsServiceState = (s : S) (v : State) → IsServiceState s → IsState v → All IsItem v.taken
    → serve_step serving s (stepped_out (serve_step serving s) v) ≡ None

pub record ServedEndsStayWithinBounds {S : Type 0} (serving : Serving S) (IsServiceState : S → Type 0) : Type 0 where
  -- a server's end is within its bounds after whatever packets
  pub ends : (s : S) (setup : Setup) (packets : List (List ℕ)) → IsServiceState s → IsSetup setup → IsGood setup → All AreBytes packets
      → IsServedWithin serving s (serve serving s setup packets)
  -- an end and what is out are within their bounds after each of the steps by which the end settles
  pub settling : (s : S) (v : State) (n : ℕ) → IsServiceState s → IsState v → IsOutShort serving s v
      → IsState (after_steps (serve_step serving s) v n) × IsOutShort serving s (after_steps (serve_step serving s) v n)
