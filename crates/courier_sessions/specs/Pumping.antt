-- Items that move between a side of a conversation and an end until nothing moves. What is out is sent, as far as the
-- end accepts it. Once nothing is out, what waits at the end is fed to the side, as far as the side takes it.
use Rattle.std.specs.Prelude.{◌≡◌, List, [], ◌∷◌, Option, Some, None, Result, Ok, Err}
use Rattle.courier_messages.specs.Refusal.{Stops}
use Rattle.xns_spp.specs.Held.{Held, StandsFor}
use Rattle.xns_spp.specs.Sending.{send_fault, after_send, take_answer, after_take}
use Rattle.xns_spp.specs.State.{State}
use Rattle.xns_spp.specs.declared.item.Item.{Item}
use Rattle.xns_spp.specs.declared.send_fault.SendFault.{SendFault}
use Rattle.courier_sessions.specs.Answering as answering
use Rattle.courier_sessions.specs.Answering.{Answering}
use Rattle.courier_sessions.specs.Feeding.{MayGrow}
use Rattle.courier_sessions.specs.Talk as talk
use Rattle.courier_sessions.specs.Talk.{Talk}
use Rattle.courier_sessions.specs.declared.feed_refusal.FeedRefusal.{FeedRefusal}
use Rattle.courier_sessions.specs.declared.feed_refusal.FeedRefusal.TheVariants.{Stopped, Busy, TooLong, Attention, Fault, NoMemory}

-- a side of a conversation
pub record Side (S : Type 0) : Type 1 where
  -- what is out at the side, and the side with other items out instead
  pub out : S → List Item
  pub with_out : S → List Item → S
  -- the side once an item is taken in, or why the item is refused
  pub fed : S → Item → Result S FeedRefusal
  -- how a fault leaves the side
  pub stops : S → S → Type 0

-- ---- one item that is fed

-- what a function that feeds an item returns, and the side afterwards; a fault is one that a peer makes
abbrev pub IsFed : {S : Type 0} → Side S → S → Item → Result (Unit {0}) FeedRefusal → S → Type 0
IsFed side t x (Ok u) n = side.fed t x ≡ Ok n
IsFed side t x (Err NoMemory) n = (n ≡ t) × MayGrow (side.fed t x) x
IsFed side t x (Err Attention) n = side.stops t n × (side.fed t x ≡ Err Attention)
IsFed side t x (Err (Fault f)) n = Stops f ⊥ (side.stops t n × (side.fed t x ≡ Err (Fault f)))
IsFed side t x (Err Stopped) n = (n ≡ t) × (side.fed t x ≡ Err Stopped)
IsFed side t x (Err Busy) n = (n ≡ t) × (side.fed t x ≡ Err Busy)
IsFed side t x (Err TooLong) n = (n ≡ t) × (side.fed t x ≡ Err TooLong)

-- ---- steps

-- what a step comes to: `None` where no step applies; otherwise the side and the end after the step, or why the side
-- refuses an item
abbrev pub StepResult : Type 0 → Type 0
StepResult S = Option (Result (S × State) FeedRefusal)

abbrev pub sending : {S : Type 0} → Option SendFault → S → State → StepResult S
sending (Some f) t v = None
sending None t v = Some (Ok (t, v))

-- the step of an item that is fed; no step applies where the side is busy, and the item waits
abbrev pub feeding : {S : Type 0} → Result S FeedRefusal → State → StepResult S
feeding (Ok t) v = Some (Ok (t, v))
feeding (Err Busy) v = None
feeding (Err Stopped) v = Some (Err Stopped)
feeding (Err TooLong) v = Some (Err TooLong)
feeding (Err Attention) v = Some (Err Attention)
feeding (Err (Fault f)) v = Some (Err (Fault f))
feeding (Err NoMemory) v = Some (Err NoMemory)

-- the step that feeds the side the next item that waits, if an item waits
abbrev pub feeds : {S : Type 0} → Side S → S → State → Option Item → StepResult S
feeds side t v None = None
feeds side t v (Some x) = feeding (side.fed t x) (after_take v)

-- the first item that is out is sent, if the end accepts it, and the others, xs, are still out; where no item is out,
-- the next item that waits is fed
abbrev pub moving : {S : Type 0} → Side S → S → State → List Item → StepResult S
moving side t v (x ∷ xs) = sending (send_fault v x) (side.with_out t xs) (after_send v x)
moving side t v [] = feeds side t v (take_answer v)

abbrev pub one_step : {S : Type 0} → Side S → S × State → StepResult S
one_step side y = moving side y.0 y.1 (side.out y.0)

-- ---- the side that calls

abbrev pub caller_side : Side Talk
caller_side = record {
  out = λ t. t.out;
  with_out = λ t xs. record t { out = xs };
  fed = talk.fed;
  stops = talk.IsStopped;
}

-- ---- the side that is called

abbrev pub server_side : Side Answering
server_side = record {
  out = λ a. a.out;
  with_out = λ a xs. record a { out = xs };
  fed = answering.fed;
  stops = answering.IsStopped;
}

-- ---- steps that are taken

-- what steps lead to from the side and the end x
pub data Leads {S : Type 0} (side : Side S) (x : S × State) : S × State → Type 0 where
  here : Leads side x x
  on : {y z : S × State} → Leads side x y → one_step side y ≡ Some (Ok z) → Leads side x z

-- the next item that waits is refused, for another reason than that the side is busy, and leaves the side as n
abbrev pub RefusesNext : {S : Type 0} → Side S → S → Option Item → FeedRefusal → S → Type 0
RefusesNext side t None e n = ⊥
RefusesNext side t (Some x) Busy n = ⊥
RefusesNext side t (Some x) NoMemory n = IsFed side t x (Err NoMemory) n
RefusesNext side t (Some x) Stopped n = IsFed side t x (Err Stopped) n
RefusesNext side t (Some x) TooLong n = IsFed side t x (Err TooLong) n
RefusesNext side t (Some x) Attention n = IsFed side t x (Err Attention) n
RefusesNext side t (Some x) (Fault f) n = IsFed side t x (Err (Fault f)) n

-- where items stop moving: no step applies, or nothing is out and the next item that waits is refused
abbrev pub Settles : {S : Type 0} → Side S → S × State → Result (Unit {0}) FeedRefusal → S → Type 0
Settles side last (Ok u) n = (n ≡ last.0) × (one_step side last ≡ None)
Settles side last (Err e) n = (side.out last.0 ≡ []) × RefusesNext side last.0 (take_answer last.1) e n

-- steps lead to the last side and end, where no step applies, or where nothing is out and the next item that waits is
-- refused
pub record Pumped {S : Type 0} (side : Side S) (first : S × State) (result : Result (Unit {0}) FeedRefusal) (session : S)
    (endpoint : Held) : Type 0 where
  pub last : S × State
  pub leads : Leads side first last
  pub stands : StandsFor endpoint last.1
  pub settled : Settles side last result session
