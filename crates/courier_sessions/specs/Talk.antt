-- The side of a Courier conversation that calls, over words (XSIS 038112, Courier).
use Rattle.std.specs.Prelude.{◌≡◌, ℕ, ◌+◌, ◌%◌, List, [], ◌∷◌, ◌++◌, length, Bool, true, false, ◌&&◌, ◌||◌, ◌==◌, nat_lt, if◌then◌else◌}
use Rattle.std.specs.Prelude.{Option, Some, None, Result, Ok, Err}
use Rattle.std.specs.Option.{is_some}
use Rattle.xns_spp.specs.declared.item.Item.{Item}
use Rattle.courier_messages.specs.declared.fault.SessionFault.{SessionFault}
use Rattle.courier_messages.specs.declared.fault.SessionFault.TheVariants.{WrongTransaction, BadReply}
use Rattle.courier_messages.specs.declared.message.Message.{Message}
use Rattle.courier_messages.specs.declared.message.Message.TheVariants.{Call, Reject, Return, Abort}
use Rattle.courier_messages.specs.RawCalls.{RawCall, most_call_words, call_message}
use Rattle.courier_messages.specs.Conversation.{Phase, opening}
use Rattle.courier_messages.specs.Cutting.{cut, versions_item}
use Rattle.courier_messages.specs.Phases.{run, said, ◌then◌}
use Rattle.courier_messages.specs.Text.{signs}
use Rattle.courier_sessions.specs.Feeding.{fed_unless}
use Rattle.courier_sessions.specs.declared.call_refusal.CallRefusal.{CallRefusal}
use Rattle.courier_sessions.specs.declared.call_refusal.CallRefusal.TheVariants as refusals
use Rattle.courier_sessions.specs.declared.feed_refusal.FeedRefusal.{FeedRefusal}

pub record Talk : Type 0 where
  -- what is kept of the peer's text
  pub phase : Phase
  -- what is to go out
  pub out : List Item
  pub failed : Bool
  -- the last call's number
  pub transaction : ℕ
  -- whether the last call waits for its answer
  pub waiting : Bool
  -- the answer that is not picked up
  pub outcome : Option Message

-- a side that is new: its versions are out
abbrev pub new_talk : Talk
new_talk = record { phase = opening []; out = versions_item ∷ []; failed = false; transaction = 0; waiting = false; outcome = None }

abbrev pub next_transaction : Talk → ℕ
next_transaction t = (t.transaction + 1) % 65536

-- the side with one more call
abbrev pub called : Talk → RawCall → Talk
called t c = record t { out = t.out ++ cut (call_message (next_transaction t) c); transaction = next_transaction t; waiting = true }

-- why a call may not be made, if it may not
abbrev pub call_refusal : Talk → RawCall → Option CallRefusal
call_refusal t c =
    if t.failed then Some refusals.Stopped
    else if t.waiting || is_some t.outcome then Some refusals.Busy
    else if nat_lt most_call_words (length c.words) then Some refusals.TooLong
    else None

-- the refusal that tells of want of memory
abbrev pub is_want_of_memory : CallRefusal → Bool
is_want_of_memory refusals.NoMemory = true
is_want_of_memory _ = false

abbrev pub wrong_unless : Bool → Option SessionFault
wrong_unless right = if right then None else Some WrongTransaction

-- why a message is no answer to the call that waits, if it is none
abbrev pub reply_fault : Bool → ℕ → Message → Option SessionFault
reply_fault waiting expects (Call transaction program version procedure words) = Some BadReply
reply_fault waiting expects (Reject transaction reason words) = wrong_unless (waiting && (transaction == expects))
reply_fault waiting expects (Return transaction words) = wrong_unless (waiting && (transaction == expects))
reply_fault waiting expects (Abort transaction error words) = wrong_unless (waiting && (transaction == expects))

abbrev pub answered_unless : Option SessionFault → Talk → Message → Result Talk SessionFault
answered_unless (Some e) t m = Err e
answered_unless None t m = Ok (record t { waiting = false; outcome = Some m })

-- the side with the messages that an item ended, of which there is at most one
abbrev pub with_ended_messages : Talk → List Message → Result Talk SessionFault
with_ended_messages t [] = Ok t
with_ended_messages t (m ∷ ms) = answered_unless (reply_fault t.waiting t.transaction m) t m

-- the side with one more item of the peer's, or the first fault
abbrev pub after_item : Talk → Item → Result Talk SessionFault
after_item t x = run t.phase (signs x) then λ p. with_ended_messages (record t { phase = p }) (said t.phase (signs x))

-- the side once an item is taken in, or the first reason why the item is refused, in this order
abbrev pub fed : Talk → Item → Result Talk FeedRefusal
fed t x = fed_unless t.failed false x (after_item t x)

-- the side is stopped; what is out and the answer that is there stay
abbrev pub IsStopped : Talk → Talk → Type 0
IsStopped old new = new ≡ record old { failed = true }
