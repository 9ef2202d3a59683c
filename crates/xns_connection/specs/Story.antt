-- What one connection has done: the history of its end and of its side.
use Rattle.std.specs.Prelude.{◌≡◌, ℕ, ◌+◌, List, [], ◌∷◌, ◌++◌, Bool, true, false, if◌then◌else◌, length, take, slice_get, Option, Some, None, Err}
use Rattle.std.specs.Option.{is_some, option_to_list}
use Rattle.courier_messages.specs.declared.message.Message.{Message}
use Rattle.courier_messages.specs.Conversation.{Phase}
use Rattle.courier_messages.specs.RawCalls.{RawCall}
use Rattle.xns_spp.specs.Growth.{Begins}
use Rattle.xns_spp.specs.Held.{Held, StandsFor}
use Rattle.xns_spp.specs.Sending.{after_send, after_take, flush_answer, after_flush}
use Rattle.xns_spp.specs.State.{State}
use Rattle.xns_spp.specs.Telling.{resend_answer, after_resend, told_answer}
use Rattle.xns_spp.specs.declared.item.Item.{Item}
use Rattle.courier_sessions.specs.Answering.{Answering, is_busy, why_unlisted, reject_message, transaction_in}
use Rattle.courier_sessions.specs.Answerings.{HasAnswered}
use Rattle.courier_sessions.specs.Pumping.{one_step, caller_side, server_side, Settles}
use Rattle.courier_sessions.specs.Talk.{Talk}
use Rattle.courier_sessions.specs.Talks.{HasDone}
use Rattle.courier_sessions.specs.declared.feed_refusal.FeedRefusal.{FeedRefusal}
use Rattle.courier_sessions.specs.declared.feed_refusal.FeedRefusal.TheVariants.{NoMemory}
use Rattle.courier_sessions.specs.declared.program.Program.{Program}
use Rattle.courier_sessions.specs.declared.unlisted.Unlisted.{Unlisted}
use Rattle.xns_connection.specs.declared.side.Side.{Side}
use Rattle.xns_connection.specs.declared.side.Side.TheVariants.{Calls, Answers}

pub record Story : Type 0 where
  -- the programs that can be called, or that the side calls
  pub programs : Option (List Program)
  -- the end, with all its history
  pub state : State
  -- the items that the side was fed, and those of its that the end accepted
  pub fed : List Item
  pub given : List Item
  -- the calls that the side made; the calls that it took, and the answers that it put out
  pub made : List RawCall
  pub taken : List Message
  pub answers : List Message
  -- what the program was handed: answers, or calls
  pub handed : List Message

-- nothing has happened yet
abbrev pub new_story : Option (List Program) → State → Story
new_story programs s = record {
  programs = programs;
  state = s;
  fed = [];
  given = [];
  made = [];
  taken = [];
  answers = [];
  handed = [];
}

-- each call taken that is not listed has its reject as its answer
abbrev pub AreRejected : List Program → (taken answers : List Message) → Type 0
AreRejected programs taken answers = (k : ℕ) (m : Message) (u : Unlisted) → slice_get taken k ≡ Some m
    → why_unlisted programs m ≡ Some u → slice_get answers k ≡ Some (reject_message (transaction_in m) u)

-- the side has done all that; one that has stopped reads no further

pub record CallerHas (h : Story) (t : Talk) : Type 0 where
  pub phase : Phase
  pub done : HasDone h.made h.fed h.given h.handed (record t { failed = false; phase = phase })
  pub going : t.failed ≡ false → t.phase ≡ phase
  pub table : h.programs ≡ None

pub record ServerHas (h : Story) (a : Answering) : Type 0 where
  pub phase : Phase
  pub done : HasAnswered a.programs h.fed h.given h.taken h.handed h.answers (record a { failed = false; phase = phase })
  pub going : a.failed ≡ false → a.phase ≡ phase
  pub table : h.programs ≡ Some a.programs
  pub rejected : AreRejected a.programs h.taken h.answers

abbrev pub SideHas : Story → Side → Type 0
SideHas h (Calls t) = CallerHas h t
SideHas h (Answers a) = ServerHas h a

abbrev pub is_stopped : Side → Bool
is_stopped (Calls t) = t.failed
is_stopped (Answers a) = a.failed

abbrev pub out_of : Side → List Item
out_of (Calls t) = t.out
out_of (Answers a) = a.out

-- the transaction of the call that was handed and waits for its answer
abbrev pub asked_of : Side → Option ℕ
asked_of (Calls t) = None
asked_of (Answers a) = a.asked

-- the peer calls
abbrev pub is_called : Side → Bool
is_called (Calls t) = false
is_called (Answers a) = true

-- the side owes the peer an answer: a call waits to be handed, or for its answer, or the answer is to go out
abbrev pub owes_answer : Side → Bool
owes_answer (Calls t) = false
owes_answer (Answers a) = is_busy a

-- a call of its own wants its answer
abbrev pub wants_answer : Side → Bool
wants_answer (Calls t) = t.waiting
wants_answer (Answers a) = false

-- a call whose program and version are listed
abbrev pub listed_call : List Program → Option Message → Option Message
listed_call programs None = None
listed_call programs (Some m) = if is_some (why_unlisted programs m) then None else Some m

-- what there is for the program: an answer, or a call
abbrev pub waiting_message : Side → Option Message
waiting_message (Calls t) = t.outcome
waiting_message (Answers a) = listed_call a.programs a.call

-- an answer or a call is there for the program, or a call that is to be rejected
abbrev pub has_message : Side → Bool
has_message (Calls t) = is_some t.outcome
has_message (Answers a) = is_some a.call

-- the program was handed it
abbrev pub with_handed : Side → Story → Message → Story
with_handed (Calls t) h m = record h { handed = h.handed ++ m ∷ [] }
with_handed (Answers a) h m = record h { taken = h.taken ++ m ∷ []; handed = h.handed ++ m ∷ [] }

-- all that was handed up was fed, and all that was accepted is the side's
pub record Flows (side : Side) (endpoint : Held) (h : Story) : Type 0 where
  pub stands : StandsFor endpoint h.state
  pub has : SideHas h side
  pub fed : h.fed ≡ take h.state.handed h.state.taken
  pub given : h.given ≡ h.state.accepted

-- an end's own steps lead from one state to the other: it accepts items, hands items up and makes packets
pub data Runs (s : State) : State → Type 0 where
  start : Runs s s
  sends : {v : State} → Runs s v → (x : Item) → Runs s (after_send v x)
  takes : {v : State} → Runs s v → Runs s (after_take v)
  flushes : {v : State} → Runs s v → Runs s (after_flush v)
  resends : {v : State} → Runs s v → Runs s (after_resend v)
  tells : {v : State} → Runs s v → (asks : Bool) → Runs s v

-- the packets that are made on the way, in order
abbrev pub made_on : {s v : State} → Runs s v → List (List ℕ)
made_on start = []
made_on (sends p x) = made_on p
made_on (takes p) = made_on p
made_on (flushes {v = v} p) = made_on p ++ flush_answer v
made_on (resends {v = v} p) = made_on p ++ option_to_list (resend_answer v)
made_on (tells {v = v} p asks) = made_on p ++ option_to_list (told_answer v asks)

-- the program made no call, was handed nothing and gave no answer: as many calls were answered as were taken
pub record ProgramDoesNothing (h m : Story) : Type 0 where
  pub programs : m.programs ≡ h.programs
  pub path : Runs h.state m.state
  pub made : m.made ≡ h.made
  pub handed : m.handed ≡ h.handed
  pub taken : Begins h.taken m.taken
  pub answers : Begins h.answers m.answers
  pub even : length m.taken + length h.answers ≡ length h.taken + length m.answers

-- ---- what can go, goes

-- no item can move between a side and its end
abbrev pub IsMoved : Side → State → Type 0
IsMoved (Calls t) s = one_step caller_side (t, s) ≡ None
IsMoved (Answers a) s = one_step server_side (a, s) ≡ None

-- no call waits that is to be rejected
abbrev pub IsListed : Side → Type 0
IsListed (Calls t) = Unit {0}
IsListed (Answers a) = (m : Message) → a.call ≡ Some m → why_unlisted a.programs m ≡ None

-- ---- what is refused

-- nothing is out, and the side refuses the item that waits next, for this reason
abbrev pub IsNextRefused : Side → State → FeedRefusal → Type 0
IsNextRefused (Calls t) s e = (n : Talk) × Settles caller_side (t, s) (Err e) n
IsNextRefused (Answers a) s e = (n : Answering) × Settles server_side (a, s) (Err e) n

-- a call waits that is to be rejected
abbrev pub IsUnlisted : Side → Type 0
IsUnlisted (Calls t) = ⊥
IsUnlisted (Answers a) = (m : Message) × (u : Unlisted) × (a.call ≡ Some m) × (why_unlisted a.programs m ≡ Some u)

-- why no more is moved: the side refuses an item, or memory is refused to the reject of a call
pub data IsHeldBack (side : Side) (s : State) : FeedRefusal → Type 0 where
  refused : (e : FeedRefusal) → IsNextRefused side s e → IsHeldBack side s e
  unrejected : IsUnlisted side → IsHeldBack side s NoMemory
