-- The ledger of a world of calls, and what is true of the world at every moment.
use Rattle.std.specs.Prelude.{◌≡◌, ◌≤◌, length, None}
use Rattle.courier_calls.specs.Calls.{SeenModel, Serving, decision, after_decision, outcomes}
use Rattle.courier_calls.specs.Caller.{caller_ending}
use Rattle.courier_messages.specs.Laws.{IsFaultless}
use Rattle.courier_messages.specs.Called.{server_ending}
use Rattle.courier_messages.specs.RawCalls.{RawCall}
use Rattle.item_world.specs.declared.side.Side.{Side}
use Rattle.item_world.specs.declared.side.Side.TheVariants.{A, B}
use Rattle.xns_spp.specs.Growth.{Begins}
use Rattle.item_world.specs.Invariant.{Holds}
use Rattle.item_world.specs.World.{sent_at, handed_at}
use Rattle.xns_world.specs.CallWorld.{Parties, CallWorld, calls_made, put_out, outcomes_read, carried_at, seen_at, service_at, step}
use Rattle.xns_world.specs.Ledger.{Ledger}
use Rattle.xns_world.specs.Settling.{stepped_out}

-- the state of the service once it has decided a call, and the outcome of the call
abbrev pub decides : {S : Type 0} → Serving S → S → RawCall → S × SeenModel
decides serving s c = (after_decision serving s c, decision serving s c)

-- the ledger of the calls of a world
abbrev pub ledger_of : {S : Type 0} → Parties S → CallWorld → Ledger S RawCall SeenModel
ledger_of p w = record {
  made = calls_made p w;
  carried = carried_at w;
  answered = outcomes p.serving p.service (carried_at w);
  seen = seen_at p w;
  state = service_at p w;
}

-- no session meets a fault
pub record MeetNoFault {S : Type 0} (p : Parties S) (w : CallWorld) : Type 0 where
  pub server : IsFaultless (server_ending (handed_at w.world B))
  pub caller : IsFaultless (caller_ending p.serving.table (calls_made p w) (handed_at w.world A))

-- what is true at every moment: each end accepted a prefix of what its session puts out, and the network keeps the order
pub record CallsHold {S : Type 0} (p : Parties S) (w : CallWorld) : Type 0 where
  pub holds : Holds w.world
  pub out : (side : Side) → Begins (sent_at w.world side) (put_out p w side)
  pub made : w.made ≤ length p.calls
  pub listed : w.listed ≤ length (outcomes_read p w)

-- between events each outcome that the caller has read is listed
abbrev pub AllListed : {S : Type 0} → Parties S → CallWorld → Type 0
AllListed p w = length (outcomes_read p w) ≤ w.listed

-- what is true between events
pub record IsBetween {S : Type 0} (p : Parties S) (w : CallWorld) : Type 0 where
  pub holds : CallsHold p w
  pub listed : AllListed p w

-- a side that settles comes to where no step applies
abbrev pub SideSettles : {S : Type 0} → Parties S → Side → CallWorld → Type 0
SideSettles p side w = step p side (stepped_out (step p side) w) ≡ None
