-- A connection whose two ends carry calls: the caller at A, the server at B.
use Rattle.std.specs.Prelude.{ℕ, zero, suc, ◌+◌, Bool, ◌==◌, ◌&&◌, nat_lt, if◌then◌else◌, List, [], ◌∷◌, ◌++◌, length, take, fold}
use Rattle.std.specs.Prelude.{slice_get, Option, Some, None}
use Rattle.courier_messages.specs.RawCalls.{RawCall, caller_items}
use Rattle.courier_calls.specs.Calls.{SeenModel, Serving}
use Rattle.courier_calls.specs.Caller.{answers}
use Rattle.courier_calls.specs.Server.{server_items, server_state, decided_calls}
use Rattle.xns_spp.specs.State.{State}
use Rattle.xns_spp.specs.declared.item.Item.{Item}
use Rattle.item_world.specs.declared.event.Event.{Event}
use Rattle.item_world.specs.declared.event.Event.TheVariants.{Deliver, Rest, Tick, Foreign, Send, Take}
use Rattle.item_world.specs.declared.setup.Setup.{Setup}
use Rattle.item_world.specs.declared.side.Side.{Side}
use Rattle.item_world.specs.declared.side.Side.TheVariants.{A, B}
use Rattle.item_world.specs.Events.{undelivered}
use Rattle.item_world.specs.Landing.{landing, world_reached}
use Rattle.item_world.specs.UserSteps.{resends, sends_system_packet}
use Rattle.xns_world.specs.Settling.{end_step_with, most_steps, onward}
use Rattle.item_world.specs.World.{World, start, end_at, moved, flushes, ticks, overhears, sends, takes, sent_at, handed_at}

-- the service with its table, the state that it begins in, and the calls that are to be made
pub record Parties (S : Type 0) : Type 0 where
  pub serving : Serving S
  pub service : S
  pub calls : List RawCall

-- the connection, how many of the calls were made, and how many outcomes were listed; the sessions are functions of these
pub record CallWorld : Type 0 where
  pub world : World
  pub made : ℕ
  pub listed : ℕ

-- ---- the sessions, as the connection's history has them

abbrev pub calls_made : {S : Type 0} → Parties S → CallWorld → List RawCall
calls_made p w = take w.made p.calls

-- all items that a side's session has put out by now
abbrev pub put_out : {S : Type 0} → Parties S → CallWorld → Side → List Item
put_out p w A = caller_items (calls_made p w)
put_out p w B = server_items p.serving p.service (handed_at w.world B)

-- the first item that a side's session has put out and its end has not yet accepted
abbrev pub next_out : {S : Type 0} → Parties S → CallWorld → Side → Option Item
next_out p w side = slice_get (put_out p w side) (length (sent_at w.world side))

-- the outcomes that the caller has read by now
abbrev pub outcomes_read : {S : Type 0} → Parties S → CallWorld → List SeenModel
outcomes_read p w = answers p.serving.table (calls_made p w) (handed_at w.world A)

-- ---- a side settles

abbrev pub in_world : CallWorld → World → CallWorld
in_world w v = record w { world = v }

-- the session's next item is sent
abbrev pub sends_next : CallWorld → Side → Item → CallWorld
sends_next w side x = in_world w (sends w.world side x)

-- the session is fed the next item that waits
abbrev pub feeds_session : CallWorld → Side → CallWorld
feeds_session w side = in_world w (takes w.world side)

-- an outcome is listed
abbrev pub lists_outcome : CallWorld → CallWorld
lists_outcome w = record w { listed = w.listed + 1 }

-- the next call is made
abbrev pub makes : CallWorld → CallWorld
makes w = record w { made = w.made + 1 }

-- an outcome is there
abbrev pub has_outcome : {S : Type 0} → Parties S → CallWorld → Bool
has_outcome p w = nat_lt w.listed (length (outcomes_read p w))

-- no call is unanswered, and calls remain
abbrev pub may_call : {S : Type 0} → Parties S → CallWorld → Bool
may_call p w = length (outcomes_read p w) == w.made && nat_lt w.made (length p.calls)

-- the third and fourth step, which the caller alone takes
abbrev pub caller_step : {S : Type 0} → Parties S → CallWorld → Side → Option CallWorld
caller_step p w A = if has_outcome p w then Some (lists_outcome w) else if may_call p w then Some (makes w) else None
caller_step p w B = None

abbrev pub or_caller : {S : Type 0} → Parties S → CallWorld → Side → Option State → Option CallWorld
or_caller p w side (Some v) = Some (in_world w (moved w.world side v []))
or_caller p w side None = caller_step p w side

abbrev pub step_with : {S : Type 0} → Parties S → CallWorld → Side → Option Item → Option CallWorld
step_with p w side o = or_caller p w side (end_step_with (end_at w.world side) o)

-- the first step that applies: the session has an item out and the end is not full: it is sent; none is out and an item
-- waits: the session is fed it; an outcome is there: it is listed; no call is unanswered: the next is made
abbrev pub step : {S : Type 0} → Parties S → Side → CallWorld → Option CallWorld
step p side w = step_with p w side (next_out p w side)

-- ---- small steps

-- packet k comes to an end, which replies where a reply is owed; bytes from elsewhere come to an end; an end ticks; a
-- side takes the first of its steps that applies, where one does; an end flushes, sends its first item again, or sends
-- a system packet. No event of a play has the last two.
pub data CallStep : Type 0 where
  arrival : ℕ → CallStep
  noise : Side → List ℕ → CallStep
  ticking : Side → CallStep
  acting : Side → CallStep
  flushing : Side → CallStep
  resending : Side → CallStep
  telling : Side → (asks : Bool) → CallStep

abbrev pub call_stepped : {S : Type 0} → Parties S → CallWorld → CallStep → CallWorld
call_stepped p w (arrival k) = in_world w (world_reached w.world (landing w.world k))
call_stepped p w (noise side bytes) = in_world w (overhears w.world side bytes)
call_stepped p w (ticking side) = in_world w (ticks w.world side)
call_stepped p w (acting side) = onward w (step p side w)
call_stepped p w (flushing side) = in_world w (flushes w.world side)
call_stepped p w (resending side) = in_world w (resends w.world side)
call_stepped p w (telling side asks) = in_world w (sends_system_packet w.world side asks)

abbrev pub all_call_stepped : {S : Type 0} → Parties S → CallWorld → List CallStep → CallWorld
all_call_stepped p w steps = fold (call_stepped p) w steps

-- ---- the steps of an event

abbrev pub acting_steps : Side → ℕ → List CallStep
acting_steps side zero = []
acting_steps side (suc n) = acting side ∷ acting_steps side n

-- a side settles: as many steps as it can take, and then it flushes
abbrev pub settling_steps : Side → List CallStep
settling_steps side = acting_steps side most_steps ++ flushing side ∷ []

abbrev pub settles : {S : Type 0} → Parties S → Side → CallWorld → CallWorld
settles p side w = all_call_stepped p w (settling_steps side)

-- packet k comes to an end, and then the side that it came to settles; nothing happens where the packet comes to none
abbrev pub call_arrival_steps : ℕ → Option (Side × World) → List CallStep
call_arrival_steps k None = []
call_arrival_steps k (Some l) = arrival k ∷ settling_steps l.0

abbrev pub call_delivers : {S : Type 0} → Parties S → CallWorld → ℕ → CallWorld
call_delivers p w k = all_call_stepped p w (call_arrival_steps k (landing w.world k))

-- packets are delivered in turn
abbrev pub call_deliveries : {S : Type 0} → Parties S → CallWorld → List ℕ → List CallStep
call_deliveries p w [] = []
call_deliveries p w (k ∷ ks) = call_arrival_steps k (landing w.world k) ++ call_deliveries p (call_delivers p w k) ks

-- the small steps of an event; `Send` and `Take` have none: the sessions alone send and take items
abbrev pub call_steps_of : {S : Type 0} → Parties S → CallWorld → Event → List CallStep
call_steps_of p w (Deliver k) = call_arrival_steps k (landing w.world k)
call_steps_of p w Rest = call_deliveries p w (undelivered 0 w.world.bag)
call_steps_of p w (Tick side) = ticking side ∷ settling_steps side
call_steps_of p w (Foreign side bytes) = noise side bytes ∷ []
call_steps_of p w (Send side x) = []
call_steps_of p w (Take side) = []

abbrev pub call_happens : {S : Type 0} → Parties S → CallWorld → Event → CallWorld
call_happens p w e = all_call_stepped p w (call_steps_of p w e)

abbrev pub call_start : Setup → CallWorld
call_start setup = record { world = start setup; made = 0; listed = 0 }

-- the world before the first event: each side has settled
abbrev pub both_settled : {S : Type 0} → Parties S → Setup → CallWorld
both_settled p setup = settles p B (settles p A (call_start setup))

abbrev pub run_calls : {S : Type 0} → Parties S → Setup → List Event → CallWorld
run_calls p setup events = fold (call_happens p) (both_settled p setup) events

-- ---- the calls and the outcomes of a world

-- the calls that the server decided
abbrev pub carried_at : CallWorld → List RawCall
carried_at w = decided_calls (handed_at w.world B)

-- the outcomes that the caller saw
abbrev pub seen_at : {S : Type 0} → Parties S → CallWorld → List SeenModel
seen_at p w = take w.listed (outcomes_read p w)

abbrev pub service_at : {S : Type 0} → Parties S → CallWorld → S
service_at p w = server_state p.serving p.service (handed_at w.world B)
