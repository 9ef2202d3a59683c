-- One step of a connection: something is done, and then what can move moves. It determines every part of the new connection.
use Rattle.std.specs.Prelude.{◌≡◌, ◌≢◌, ℕ, List, [], Bool, true, false, not, ◌&&◌, Option, None, Result, Ok, Err, IfOk, OnErr}
use Rattle.courier_sessions.specs.declared.feed_refusal.FeedRefusal.{FeedRefusal}
use Rattle.xns_agenda.specs.Waiting.{HearsAt, StepsAt, Waiting, after_step, due_time, new_waiting}
use Rattle.xns_agenda.specs.declared.pace.Pace.{Pace}
use Rattle.xns_spp.specs.Held.{StandsFor}
use Rattle.xns_spp.specs.State.{State}
use Rattle.xns_connection.specs.Closed.{ClosesBy}
use Rattle.xns_connection.specs.Closing.{drains, wants_word}
use Rattle.xns_connection.specs.Connecting.{is_dead}
use Rattle.xns_connection.specs.Deeds.{Deed, Moved, Parts, acted, done, nothing, made, gave, side_taken, took, heard, owed_by, told_by, unserved, wait_after_deed, wait_moved, wanted_by}
use Rattle.std.specs.Option.{is_some}
use Rattle.std.specs.declared.alloc.AllocError.{AllocError}
use Rattle.xns_connection.specs.Giving.{Giving, GivesAs, IsGiving, MayStopAt, giving, next_of, next_unless}
use Rattle.xns_connection.specs.Living.{GoesFrom}
use Rattle.xns_connection.specs.Moving.{is_calm, conversation_scene}
use Rattle.xns_connection.specs.Reasons.{answer_fault_of, call_fault_of}
use Rattle.xns_connection.specs.Story.{Story, is_stopped, waiting_message}
use Rattle.xns_connection.specs.Telling.{waits as waits_for}
use Rattle.xns_connection.specs.Telling.{CalmFrom, EndsWhenDue, Goes, HasSaidEnd, HasSaidReply, MovesAndGives, OwesRoom, ReadsAll, Rested}
use Rattle.xns_connection.specs.declared.connection.Connection.{Connection}
use Rattle.xns_connection.specs.declared.conversation.Conversation.{Conversation}
use Rattle.xns_connection.specs.declared.closing.TheConstants.Closing as closings
use Rattle.xns_connection.specs.declared.owed.TheConstants.Owed.{NONE, SILENT}

-- ---- a new connection

-- a connection that was made now: nothing was said in it, nobody closes it, its side reads, it is open, and owes nothing but, where
-- its side calls, its opening packet
pub record IsMade (pace : Pace) (now : ℕ) (again : Bool) (c : Connection) : Type 0 where
  pub silent : c.conversation.packets.items ≡ []
  pub unasked : c.conversation.closing ≡ closings.NONE
  pub reads : is_stopped c.conversation.side ≡ false
  pub unclosed : c.closed ≡ None
  pub untold : c.told ≡ false
  pub owes : c.owed ≡ record NONE { again = again }
  pub waits : (s : State) → StandsFor c.conversation.endpoint s
      → c.wait ≡ after_step (new_waiting pace now) (waits_for s) (wants_word c.conversation.side c.conversation.closing) now
  pub began : StepsAt now (new_waiting pace now) c.wait

-- ---- a step

-- the program may do it: it may make the call, or give the answer; anything else it may always do
abbrev pub May : Conversation → Deed → Type 0
May t (made call) = call_fault_of t call ≡ None
May t (gave kind words) = answer_fault_of t kind words ≡ None
May t deed = Unit {0}

-- the waits make steps of this moment; where bytes come, a word of the peer may come first
abbrev pub WaitsBy : Deed → (now : ℕ) → (old new : Waiting) → Type 0
WaitsBy (heard bytes) now w v = HearsAt now w v
WaitsBy deed now w v = StepsAt now w v

-- at this time this was done, and then what could move moved
pub record Step (now : ℕ) (deed : Deed) (old new : Connection) : Type 0 where
  pub moved : Result (Unit {0}) FeedRefusal
  pub on : (s : State) → StandsFor old.conversation.endpoint s
      → Moved now (done deed (conversation_scene old.conversation s)) moved new.conversation (owed_by deed old.owed old.wait s now) new.owed
      old.closed new.closed (wait_after_deed deed old.wait s now) new.wait
  pub may : May old.conversation deed
  pub steps : WaitsBy deed now old.wait new.wait
  pub packets : new.conversation.packets ≡ old.conversation.packets
  pub told : new.told ≡ old.told
  pub stays : old.closed ≢ None → new.closed ≡ old.closed

-- whether a packet that a connection took in belongs to it: one for which memory was refused does
abbrev pub is_ours_by : Result Bool AllocError → Bool
is_ours_by (Ok ours) = ours
is_ours_by (Err e) = true

-- ---- steps that move nothing

-- what a connection is, without what is known of it
abbrev pub parts_of : Connection → Parts
parts_of c = record { conversation = c.conversation; wait = c.wait; owed = c.owed; closed = c.closed; told = c.told }

-- nothing can move when the message that waits was handed
abbrev pub is_calm_then : Connection → State → Bool
is_calm_then c s = not c.owed.moving && is_calm (done took (conversation_scene c.conversation s))

-- no message waits, and nothing was done; or the one that waits was handed, and where nothing can move then, that is all
pub data Hands (now : ℕ) (old new : Connection) : Type 0 where
  none_waits : waiting_message old.conversation.side ≡ None → new ≡ old → Hands now old new
  calmly : waiting_message old.conversation.side ≢ None → ((s : State) → StandsFor old.conversation.endpoint s → is_calm_then old s ≡ true)
      → parts_of new ≡ record (parts_of old) { conversation = record old.conversation { side = side_taken old.conversation.side } }
      → Hands now old new
  moving_on : waiting_message old.conversation.side ≢ None → ((s : State) → StandsFor old.conversation.endpoint s → is_calm_then old s ≡ false)
      → Step now took old new → Hands now old new

-- ---- a packet that goes out

-- what memory was refused for moved, if anything did
abbrev pub MovesOwed : Bool → (now : ℕ) → (old mid : Connection) → Type 0
MovesOwed true now old mid = Step now nothing old mid
MovesOwed false now old mid = mid ≡ old

-- what memory was refused for moved; then the next packet was given, if the connection is not dead and there is one, and what is waited for
-- then follows; or memory was refused on the way, and there is one
pub record GivesNext (now : ℕ) (result : Result (Option (List ℕ)) AllocError) (old new : Connection) : Type 0 where
  pub mid : Connection
  pub moved : MovesOwed old.owed.moving now old mid
  pub gave : IfOk result (λ p. (s : State) → StandsFor mid.conversation.endpoint s
      → GivesAs (next_unless (is_dead mid.closed) (giving mid.conversation mid.owed s)) p new.conversation new.owed)
  pub short : OnErr result ((s : State) → StandsFor mid.conversation.endpoint s → (y : Giving) × MayStopAt (giving mid.conversation mid.owed s) y
      × IsGiving new.conversation new.owed y)
  pub wanted : OnErr result ((s : State) → StandsFor mid.conversation.endpoint s
      → is_some (next_of (giving mid.conversation mid.owed s)).0 ≡ true)
  pub alive : OnErr result (is_dead mid.closed ≡ false)
  pub beside : (new.conversation.side ≡ mid.conversation.side) × (new.conversation.closing ≡ mid.conversation.closing)
  pub closed : new.closed ≡ mid.closed
  pub told : new.told ≡ mid.told
  pub waits : (s : State) → StandsFor new.conversation.endpoint s → new.wait ≡ wait_moved mid.closed mid.closed mid.wait (conversation_scene new.conversation s) now
  pub steps : StepsAt now old.wait new.wait

-- a connection owes no EndReply any longer, unless memory was refused while items moved, or this step closed it
abbrev pub HasReplied : (old new : Connection) → Type 0
HasReplied old new = new.owed.moving ≡ false → new.closed ≡ old.closed → HasSaidReply new.conversation

-- after this was done its items moved, and so it was closed, if it was
abbrev pub ClosesFrom : (old new : Connection) → (Story → Story) → Type 0
ClosesFrom old new deed = ClosesBy old.conversation deed new.conversation new.owed.moving old.closed new.closed

-- ---- what that means for what it has done, and for the peer

-- whatever the connection had done goes on from where it is after that; no item can move, and nothing is to be said or read of closing, unless
-- memory was refused or the step closed it; and that is why it is closed, if it is. `closes` says of each step whether it drains then: so what
-- `calm` says of a connection that does not drain is said of each that did not, unless its side refused an item, the step closed it, or End was
-- put out at a side that is called, which is done only when it is due
pub record Promises (now : ℕ) (deed : Deed) (old new : Connection) : Type 0 where
  pub story : GoesFrom old.conversation new.conversation (told_by deed old.conversation.side)
  pub wanted : new.conversation.closing.wanted ≡ wanted_by deed old.conversation.closing.wanted
  pub still : drains new.conversation.side new.conversation.closing ≡ false
      → drains old.conversation.side old.conversation.closing ≡ false
  pub calm : new.owed.moving ≡ false → drains new.conversation.side new.conversation.closing ≡ false
      → CalmFrom old.conversation new.conversation (told_by deed old.conversation.side)
  pub read : new.owed.moving ≡ false → new.closed ≡ old.closed → ReadsAll old.conversation new.conversation
  pub said : new.owed.moving ≡ false → HasSaidEnd new.conversation
  pub ended : EndsWhenDue old.conversation new.conversation
  pub replied : HasReplied old new
  pub closes : ClosesFrom old new (told_by deed old.conversation.side)
  pub packets : new.conversation.packets ≡ old.conversation.packets
  pub steps : WaitsBy deed now old.wait new.wait
  pub room : OwesRoom old.conversation.endpoint new.conversation.endpoint new.owed.word

-- a connection keeps its promises at each step
abbrev pub AStepKeepsItsPromises : Type 0
AStepKeepsItsPromises = (now : ℕ) (deed : Deed) (old new : Connection) → Step now deed old new → Promises now deed old new

-- a message that is handed where nothing can move then is handed as by a step
abbrev pub AMessageIsHandedAsByAStep : Type 0
AMessageIsHandedAsByAStep = (now : ℕ) (old new : Connection) → waiting_message old.conversation.side ≢ None → Hands now old new
    → Promises now took old new

-- asked for a packet the connection went on by itself and gave this one, or none: the first of those that waited and of those that were made
-- on the way. Where there is none, nothing is owed. Of a connection that is not dead no packet waits then, and no item is left that may go out
-- for the first time; of a dead one those packets wait that waited before
pub record GivesOn (result : Result (Option (List ℕ)) AllocError) (old new : Connection) : Type 0 where
  pub goes : Goes old.conversation new.conversation
  pub gives : IfOk result (λ o. MovesAndGives old.conversation new.conversation o)
  pub given_none : OnErr result (MovesAndGives old.conversation new.conversation None)
  pub rested : is_dead new.closed ≡ false → result ≡ Ok None → Rested old.conversation new.conversation
  pub emptied : is_dead new.closed ≡ false → result ≡ Ok None → new.conversation.packets.items ≡ []
  pub kept : is_dead new.closed ≡ true → result ≡ Ok None → new.conversation.packets.items ≡ old.conversation.packets.items
  pub none : result ≡ Ok None
      → (new.owed.again ≡ false) × (new.owed.asks ≡ false) × (new.owed.word ≡ false) × (new.owed.fresh ≡ new.owed.moving)

-- what a connection gives waited, or it made it
abbrev pub AConnectionGivesWhatItMade : Type 0
AConnectionGivesWhatItMade = (now : ℕ) (result : Result (Option (List ℕ)) AllocError) (old new : Connection) → GivesNext now result old new
    → GivesOn result old new

-- nothing goes out of a dead connection; what comes changes nothing that it has to tell; and whatever is done it stays dead, for the same
-- reason
pub record TheDeadAreSilent : Type 0 where
  pub gives : (now : ℕ) (result : Result (Option (List ℕ)) AllocError) (old new : Connection) → is_dead old.closed ≡ true
      → GivesNext now result old new → (result ≡ Ok None) × (new.closed ≡ old.closed) × (new.owed ≡ SILENT)
  pub hears : (now : ℕ) (bytes : List ℕ) (old new : Connection) → is_dead old.closed ≡ true → Step now (heard bytes) old new
      → (new.conversation.side ≡ old.conversation.side) × (new.told ≡ old.told)
  pub stays : (now : ℕ) (deed : Deed) (old new : Connection) → is_dead old.closed ≡ true → Step now deed old new → new.closed ≡ old.closed

-- where memory was not refused a step has one end only: the same connection, time and deed give the same parts
abbrev pub AStepHasOneEnd : Type 0
AStepHasOneEnd = (now : ℕ) (deed : Deed) (old new other : Connection) (s : State) → StandsFor old.conversation.endpoint s
    → Step now deed old new → Step now deed old other → new.owed.moving ≡ false → other.owed.moving ≡ false → parts_of new ≡ parts_of other

-- the parts of a connection are timed: it is closed, or wants no word of its peer, or something is due at a time
abbrev pub IsTimed : Parts → Type 0
IsTimed p = p.closed ≡ None → wants_word p.conversation.side p.conversation.closing ≡ true → is_some (due_time p.wait.due) ≡ true

-- a connection is timed when it is new, after each step, and after it was asked for a packet; what moves nothing leaves it timed
pub record AClosingConnectionDoesNotWaitForEver : Type 0 where
  pub begins : (pace : Pace) (now : ℕ) (again : Bool) (c : Connection) → IsMade pace now again c → IsTimed (parts_of c)
  pub steps : (now : ℕ) (deed : Deed) (old new : Connection) → Step now deed old new → IsTimed (parts_of new)
  pub gives : (now : ℕ) (result : Result (Option (List ℕ)) AllocError) (old new : Connection) → GivesNext now result old new → IsTimed (parts_of new)
  pub hands : (now : ℕ) (old new : Connection) → IsTimed (parts_of old) → Hands now old new → IsTimed (parts_of new)
  pub acts : (now : ℕ) (old new : Connection) → IsTimed (parts_of old) → parts_of new ≡ acted (parts_of old) now → IsTimed (parts_of new)
  pub refused : (number now : ℕ) (old new : Connection) → IsTimed (parts_of old) → parts_of new ≡ unserved (parts_of old) number now
      → IsTimed (parts_of new)
