-- The promises on calls.
use Rattle.std.specs.Prelude.{◌≡◌, ℕ, List, take, Some, All}
use Rattle.courier_calls.specs.Calls.{Serving, IsFitting}
use Rattle.item_world.specs.declared.event.Event.{Event}
use Rattle.item_world.specs.declared.setup.Setup.{Setup}
use Rattle.item_world.specs.declared.side.Side.{Side}
use Rattle.item_world.specs.Setup.{IsSetup, IsGood}
use Rattle.item_world.specs.Landing.{landing}
use Rattle.item_world.specs.World.{World, ticks}
use Rattle.xns_world.specs.CallWorld.{Parties, CallWorld, call_start, in_world, CallStep, call_stepped, all_call_stepped, settles}
use Rattle.xns_world.specs.CallWorld.{run_calls}
use Rattle.xns_world.specs.CallOrder.{decides, ledger_of, CallsHold, MeetNoFault, IsBetween, SideSettles}
use Rattle.xns_world.specs.Ledger.{Ledger, Entry, IsHistory, IsInOrder}

-- the service is this one, in a state that it can be in, and each call can be made
pub record AreParties {S : Type 0} (serving : Serving S) (IsServiceState : S → Type 0) (p : Parties S) : Type 0 where
  pub serving_is : p.serving ≡ serving
  pub state : IsServiceState p.service
  pub calls : All IsFitting p.calls

-- whatever entries are made, in each history of a ledger all is in order
abbrev pub EntriesKeepTheOrder : (S C O : Type 0) → Type 0
EntriesKeepTheOrder S C O = (decide : S → C → S × O) (s : S) (l : ℕ → Ledger S C O) → IsHistory decide s l → (n : ℕ)
    → IsInOrder decide s (l n)

-- small steps from the start, in whatever order they are taken, give a history of the ledger
abbrev pub EachStepIsAnEntry : {S : Type 0} → Serving S → (S → Type 0) → Type 0
EachStepIsAnEntry {S} serving IsServiceState = (p : Parties S) (setup : Setup) (steps : List CallStep) →
    AreParties serving IsServiceState p → IsSetup setup → IsGood setup →
    IsHistory (decides p.serving) p.service (λ n. ledger_of p (all_call_stepped p (call_start setup) (take n steps)))

-- each call is carried out at most once and in order, at every moment
pub record CallsComeInOrder {S : Type 0} (serving : Serving S) (IsServiceState : S → Type 0) : Type 0 where
  -- a world in which `CallsHold` has its calls in order
  pub order : (p : Parties S) (w : CallWorld) → AreParties serving IsServiceState p → CallsHold p w →
      IsInOrder (decides p.serving) p.service (ledger_of p w)
  pub well : (p : Parties S) (w : CallWorld) → AreParties serving IsServiceState p → CallsHold p w → MeetNoFault p w
  -- the invariant holds at the start; each small step, in whatever order they are taken, keeps it and is one entry of the ledger
  pub starts : (p : Parties S) (setup : Setup) → AreParties serving IsServiceState p → IsSetup setup → IsGood setup
      → IsBetween p (call_start setup)
  pub entry : (p : Parties S) (w : CallWorld) (step : CallStep) → AreParties serving IsServiceState p → CallsHold p w →
      Entry (decides p.serving) (ledger_of p w) (ledger_of p (call_stepped p w step))
  pub keeps : (p : Parties S) (w : CallWorld) (steps : List CallStep) → AreParties serving IsServiceState p → CallsHold p w →
      CallsHold p (all_call_stepped p w steps)
  -- `IsBetween` is true after any events
  pub between : (p : Parties S) (setup : Setup) (events : List Event) → AreParties serving IsServiceState p → IsSetup setup → IsGood setup
      → IsBetween p (run_calls p setup events)
  -- between events each side settles
  pub ends : (p : Parties S) (side : Side) (w : CallWorld) → AreParties serving IsServiceState p → IsBetween p w → SideSettles p side w
  -- where sides settle in a run: at the start, behind the other side, behind a packet that came, and behind a tick
  pub settled : (p : Parties S) (side : Side) (w : CallWorld) → AreParties serving IsServiceState p → IsBetween p w
      → IsBetween p (settles p side w)
  pub lands : (p : Parties S) (w : CallWorld) (k : ℕ) (l : Side × World) → AreParties serving IsServiceState p → IsBetween p w
      → landing w.world k ≡ Some l → IsBetween p (in_world w l.1)
  pub tick : (p : Parties S) (w : CallWorld) (side : Side) → AreParties serving IsServiceState p → IsBetween p w
      → IsBetween p (in_world w (ticks w.world side))
