-- A connection: what is due, why it is closed, and what is owed.
use Rattle.std.specs.Prelude.{◌≡◌, ◌≢◌, ℕ, Bool, true, false, ◌&&◌, ◌||◌, ◌==◌, nat_le, nat_lt, if◌then◌else◌, List, Option, Some, None, Result, Ok, Err}
use Rattle.courier_messages.specs.declared.fault.SessionFault.{SessionFault}
use Rattle.courier_messages.specs.declared.fault.SessionFault.TheVariants.{NoCommonVersion, BadVersions, BadMessage, WrongTransaction}
use Rattle.courier_messages.specs.declared.fault.SessionFault.TheVariants.{BadReply, Stream, Failed}
use Rattle.courier_messages.specs.declared.fault.SessionFault.TheVariants as faults
use Rattle.courier_sessions.specs.declared.feed_refusal.FeedRefusal.{FeedRefusal}
use Rattle.courier_sessions.specs.declared.feed_refusal.FeedRefusal.TheVariants.{Stopped, Busy, TooLong, Attention, Fault, NoMemory}
use Rattle.xns_spp.specs.Receiving.{after_receive, input_answer}
use Rattle.xns_spp.specs.State.{State}
use Rattle.xns_spp.specs.Telling.{unacknowledged_count}
use Rattle.xns_spp.specs.declared.dropped.Dropped.{Dropped}
use Rattle.xns_spp.specs.declared.dropped.Dropped.TheVariants as drops
use Rattle.xns_spp.specs.Datastreams.{end_reply_stream, end_stream}
use Rattle.xns_connection.specs.Closing.{drains}
use Rattle.xns_connection.specs.Replying.{reply_by}
use Rattle.xns_connection.specs.Telling.{progress}
use Rattle.xns_agenda.specs.Measuring.{mends}
use Rattle.xns_agenda.specs.Waiting.{Waiting, after_word, is_overdue, is_third_reply}
use Rattle.xns_agenda.specs.declared.act.Act.{Act}
use Rattle.xns_agenda.specs.declared.act.Act.TheVariants.{Nothing, Again, Ask, GiveUp, Forget}
use Rattle.xns_connection.specs.declared.closing.Closing.{Closing}
use Rattle.xns_connection.specs.declared.conversation.Conversation.{Conversation}
use Rattle.xns_agenda.specs.declared.due.Due.{Due}
use Rattle.xns_agenda.specs.declared.due.Due.TheVariants.{Never, AgainAt, AskAt, ForgetAt}
use Rattle.xns_connection.specs.declared.owed.Owed.{Owed}
use Rattle.xns_connection.specs.declared.why.Why.{Why}
use Rattle.xns_connection.specs.declared.why.Why.TheVariants.{Asked, ByPeer, Silent, NotServed, Refused}

-- ---- what is due

-- something goes out again
abbrev pub is_again : Due → Bool
is_again Never = false
is_again (AgainAt t) = true
is_again (AskAt t) = false
is_again (ForgetAt t) = false

-- what may be due of an open connection
abbrev pub is_open_due : Due → Bool
is_open_due Never = true
is_open_due (AgainAt t) = true
is_open_due (AskAt t) = true
is_open_due (ForgetAt t) = false

-- what may be due of a closed connection: nothing goes out by the time alone
abbrev pub is_closed_due : Due → Bool
is_closed_due Never = true
is_closed_due (AgainAt t) = false
is_closed_due (AskAt t) = false
is_closed_due (ForgetAt t) = true

-- an open connection waits for what an open one does; a closed one waits for what a closed one does, and its side reads no more
pub record FitsClosed (closed : Option Why) (conversation : Conversation) (wait : Waiting) : Type 0 where
  pub open_due : closed ≡ None → is_open_due wait.due ≡ true
  pub closed_due : closed ≢ None → is_closed_due wait.due ≡ true
  pub deaf : closed ≢ None → drains conversation.side conversation.closing ≡ true

-- ---- why it is closed

-- why a closing exchange is over
abbrev pub why_over : Closing → Why
why_over c = if c.end_sent then Asked else ByPeer

-- why a connection is closed that is given up for this reason, where so many items are not acknowledged: the exchange counts as over where
-- EndReply, the last of all items, may be the only one of them
abbrev pub why_given_up : Closing → (unacknowledged : ℕ) → (reason : Why) → Why
why_given_up c unacknowledged reason = if c.reply_sent && nat_le unacknowledged 1 then why_over c else reason

-- a connection is dead that silence closed, or a refusal, or an Error packet; one that the closing exchange closed lingers
abbrev pub is_dead : Option Why → Bool
is_dead None = false
is_dead (Some Asked) = false
is_dead (Some ByPeer) = false
is_dead (Some Silent) = true
is_dead (Some (NotServed number)) = true
is_dead (Some (Refused e)) = true

abbrev pub is_closing : ℕ → Bool
is_closing stream = (stream == end_stream) || (stream == end_reply_stream)

-- why a connection is closed whose side refused an item, if it is: an item of the closing exchange, and one for which no memory was there,
-- are none
abbrev pub why_fault : SessionFault → Option Why
why_fault NoCommonVersion = Some (Refused (Fault NoCommonVersion))
why_fault BadVersions = Some (Refused (Fault BadVersions))
why_fault (BadMessage m) = Some (Refused (Fault (BadMessage m)))
why_fault WrongTransaction = Some (Refused (Fault WrongTransaction))
why_fault BadReply = Some (Refused (Fault BadReply))
why_fault (Stream kind) = if is_closing kind then None else Some (Refused (Fault (Stream kind)))
why_fault faults.NoMemory = Some (Refused (Fault faults.NoMemory))
why_fault Failed = Some (Refused (Fault Failed))

abbrev pub why_refused : FeedRefusal → Option Why
why_refused Stopped = None
why_refused Busy = None
why_refused NoMemory = None
why_refused TooLong = Some (Refused TooLong)
why_refused Attention = Some (Refused Attention)
why_refused (Fault f) = why_fault f

-- why a connection is closed after its items moved, if it is
abbrev pub why_after : Closing → (over : Bool) → Result (Unit {0}) FeedRefusal → Option Why
why_after c over (Err e) = why_refused e
why_after c over (Ok u) = if over then Some (why_over c) else None

-- ---- what is owed

abbrev pub owed_after : Owed → Act → Owed
owed_after o Nothing = o
owed_after o Again = record o { again = true; fresh = true }
owed_after o Ask = record o { asks = true; fresh = true }
owed_after o GiveUp = o
owed_after o Forget = o

-- ---- what came

-- the packet is not from our peer
abbrev pub is_foreign : Option Dropped → Bool
is_foreign None = false
is_foreign (Some drops.NotIdp) = true
is_foreign (Some drops.NotSpp) = true
is_foreign (Some drops.NotOurs) = true
is_foreign (Some drops.AheadOfUs) = true
is_foreign (Some drops.OutOfOrder) = false
is_foreign (Some drops.NoRoom) = false
is_foreign (Some drops.Repeat) = false

-- the packet was dropped as one of another connection
abbrev pub is_of_another : Option Dropped → Bool
is_of_another None = false
is_of_another (Some drops.NotIdp) = false
is_of_another (Some drops.NotSpp) = false
is_of_another (Some drops.NotOurs) = true
is_of_another (Some drops.AheadOfUs) = false
is_of_another (Some drops.OutOfOrder) = false
is_of_another (Some drops.NoRoom) = false
is_of_another (Some drops.Repeat) = false

-- the packet was dropped because its item came before
abbrev pub is_dropped_repeat : Option Dropped → Bool
is_dropped_repeat None = false
is_dropped_repeat (Some drops.NotIdp) = false
is_dropped_repeat (Some drops.NotSpp) = false
is_dropped_repeat (Some drops.NotOurs) = false
is_dropped_repeat (Some drops.AheadOfUs) = false
is_dropped_repeat (Some drops.OutOfOrder) = false
is_dropped_repeat (Some drops.NoRoom) = false
is_dropped_repeat (Some drops.Repeat) = true

-- the first item goes out again for a packet, where some item is left that is not acknowledged: the packet has more acknowledged, but not all
-- that was out when something went out again; or the peer repeats an item, and what waits for the peer is overdue; or the peer says for the third time that it lacks the item
abbrev pub again_for : Option Dropped → (acknowledged : ℕ) (left : Bool) → (reply : Option ℕ) → Waiting → (now : ℕ) → Bool
again_for dropped acknowledged left reply w now =
    left && (if nat_lt 0 acknowledged then mends w.measure w.pace w.timing acknowledged now else is_third_reply w reply || (is_dropped_repeat dropped && is_overdue w now))

abbrev pub goes_again : Waiting → State → List ℕ → (now : ℕ) → Bool
goes_again w s b now = again_for (input_answer s b).dropped (progress s (after_receive s b)).acknowledged (nat_lt 0 (unacknowledged_count (after_receive s b)))
    (reply_by (after_receive s b) b) w now

-- the waits of a connection, and what it owes, after these bytes came to its end, before anything moves
abbrev pub wait_heard : Waiting → State → List ℕ → (now : ℕ) → Waiting
wait_heard w s b now =
    if is_foreign (input_answer s b).dropped then w
    else after_word w (progress s (after_receive s b)) (reply_by (after_receive s b) b) (goes_again w s b now) now

abbrev pub owed_heard : Owed → Waiting → State → List ℕ → (now : ℕ) → Owed
owed_heard o w s b now =
    if is_foreign (input_answer s b).dropped then o
    else record o { word = o.word || (input_answer s b).owes_reply; again = o.again || goes_again w s b now }
