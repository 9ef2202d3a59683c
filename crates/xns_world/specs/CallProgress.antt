-- The calls of a play that are still to be carried out, and the steps that would carry them out.
use Rattle.std.specs.Prelude.{◌≡◌, ◌≤◌, ◌+◌, ℕ, List, length, fold, All}
use Rattle.courier_messages.specs.RawCalls.{caller_items}
use Rattle.courier_calls.specs.Calls.{Serving, outcomes}
use Rattle.xns_world.specs.CallPromises.{AreParties}
use Rattle.courier_calls.specs.Server.{server_items}
use Rattle.xns_spp.specs.Numbers.{most_items}
use Rattle.item_world.specs.Progress.{Linked, IsFurther}
use Rattle.item_world.specs.declared.event.Event.{Event}
use Rattle.item_world.specs.Setup.{IsSetup, IsGood}
use Rattle.item_world.specs.declared.setup.Setup.{Setup}
use Rattle.xns_world.specs.CallOrder.{CallsHold}
use Rattle.xns_world.specs.CallWorld.{Parties, CallWorld, CallStep, arrival, ticking, acting, flushing, call_start, call_stepped}
use Rattle.xns_world.specs.CallWorld.{all_call_stepped, call_happens, run_calls, carried_at, seen_at, outcomes_read}

-- an end ticks or flushes, a side takes a step of its own, or one of the packets that are sent from number n on comes
-- to an end
abbrev pub IsPlainCall : ℕ → CallStep → Type 0
IsPlainCall n (arrival k) = n ≤ k
IsPlainCall n (ticking side) = Unit {0}
IsPlainCall n (acting side) = Unit {0}
IsPlainCall n (flushing side) = Unit {0}
IsPlainCall n _ = ⊥

-- each of the calls was made and carried out, and its outcome seen
pub record IsAllDone {S : Type 0} (p : Parties S) (w : CallWorld) : Type 0 where
  pub made : w.made ≡ length p.calls
  pub carried : carried_at w ≡ p.calls
  pub seen : seen_at p w ≡ outcomes p.serving p.service p.calls

-- a connection carries all that the calls and their answers take
pub record CarriesAll {S : Type 0} (p : Parties S) : Type 0 where
  pub calls : length (caller_items p.calls) ≤ most_items
  pub answers : length (server_items p.serving p.service (caller_items p.calls)) ≤ most_items

-- what is true at every moment: the ends know each other, and at most one call is unanswered
pub record CallsGoOn {S : Type 0} (p : Parties S) (w : CallWorld) : Type 0 where
  pub holds : CallsHold p w
  pub linked : Linked w.world
  pub waits : w.made ≤ length (outcomes_read p w) + 1

-- plain steps after which all calls are done, and which need no packet that was sent before
pub record Completes {S : Type 0} (p : Parties S) (w : CallWorld) : Type 0 where
  pub more : List CallStep
  pub plain : All (IsPlainCall (length w.world.bag)) more
  pub done : IsAllDone p (all_call_stepped p w more)

-- events of a play after which all calls are done: ticks, and deliveries of packets that are sent from then on; the sides take their own
-- steps
pub record CompletesByEvents {S : Type 0} (p : Parties S) (w : CallWorld) : Type 0 where
  pub more : List Event
  pub further : All (IsFurther (length w.world.bag)) more
  pub done : IsAllDone p (fold (call_happens p) w more)

-- from every state that a play can be in, whatever was lost, repeated or late before, some plain steps carry out all calls, and list their
-- outcomes
pub record NoPlayIsStuck {S : Type 0} (serving : Serving S) (IsServiceState : S → Type 0) : Type 0 where
  pub starts : (p : Parties S) (setup : Setup) → AreParties serving IsServiceState p → IsSetup setup → IsGood setup
      → CallsGoOn p (call_start setup)
  pub each : (p : Parties S) (w : CallWorld) (step : CallStep) → AreParties serving IsServiceState p → CallsGoOn p w
      → CallsGoOn p (call_stepped p w step)
  pub world : (p : Parties S) (w : CallWorld) → AreParties serving IsServiceState p → CarriesAll p → CallsGoOn p w → Completes p w
  pub always : (p : Parties S) (setup : Setup) (steps : List CallStep) → AreParties serving IsServiceState p → IsSetup setup → IsGood setup
      → CarriesAll p → Completes p (all_call_stepped p (call_start setup) steps)
  pub by_events : (p : Parties S) (setup : Setup) (events : List Event) → AreParties serving IsServiceState p → IsSetup setup → IsGood setup
      → CarriesAll p → CompletesByEvents p (run_calls p setup events)
