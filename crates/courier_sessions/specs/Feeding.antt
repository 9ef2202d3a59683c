-- What is told of an item that is fed to a side of a conversation.
use Rattle.std.specs.Prelude.{ℕ, ◌+◌, ◌<◌, ◌≡◌, length, Bool, if◌then◌else◌, nat_lt, Result, Ok, Err, IsOk}
use Rattle.xns_spp.specs.declared.item.Item.{Item}
use Rattle.courier_messages.specs.Refusal.{Stops, KeepsNothing}
use Rattle.courier_messages.specs.Conversation.{Phase}
use Rattle.courier_messages.specs.Message.{most_bytes}
use Rattle.courier_messages.specs.declared.fault.SessionFault.{SessionFault}
use Rattle.courier_messages.specs.declared.fault.SessionFault.TheVariants as faults
use Rattle.courier_messages.specs.declared.fault.SessionFault.TheVariants.{NoCommonVersion, BadVersions, BadMessage, WrongTransaction}
use Rattle.courier_messages.specs.declared.fault.SessionFault.TheVariants.{BadReply, Stream, Failed}
use Rattle.courier_sessions.specs.declared.feed_refusal.FeedRefusal.{FeedRefusal}
use Rattle.courier_sessions.specs.declared.feed_refusal.FeedRefusal.TheVariants.{Stopped, Busy, TooLong, Attention, Fault, NoMemory}

-- how many bytes an item may have at most: those of the versions and of the longest message
abbrev pub most_item : ℕ
most_item = 4 + most_bytes

-- a side with one more item of its peer's, or the first fault
abbrev pub feed_result : {S : Type 0} → Result S SessionFault → Result S FeedRefusal
feed_result (Ok t) = Ok t
feed_result (Err e) = Err (Fault e)

-- a side once an item is taken in that leads to `after`, or the first reason why the item is refused, in this order
abbrev pub fed_unless : {S : Type 0} → Bool → Bool → Item → Result S SessionFault → Result S FeedRefusal
fed_unless stopped busy x after =
    if stopped then Err Stopped
    else if busy then Err Busy
    else if x.attention then Err Attention
    else if nat_lt most_item (length x.body) then Err TooLong
    else feed_result after

-- what is returned for an item that was looked at
abbrev pub look_result : Result (Unit {0}) SessionFault → Result (Unit {0}) FeedRefusal
look_result (Ok u) = Ok u
look_result (Err faults.NoMemory) = Err NoMemory
look_result (Err NoCommonVersion) = Err (Fault NoCommonVersion)
look_result (Err BadVersions) = Err (Fault BadVersions)
look_result (Err (BadMessage f)) = Err (Fault (BadMessage f))
look_result (Err WrongTransaction) = Err (Fault WrongTransaction)
look_result (Err BadReply) = Err (Fault BadReply)
look_result (Err (Stream kind)) = Err (Fault (Stream kind))
look_result (Err Failed) = Err (Fault Failed)

-- what a look finds at an item that leads to q, before the item is taken in: a fault that a peer makes, or none
abbrev pub Judges : {S : Type 0} → Result (Unit {0}) SessionFault → Result S SessionFault → Type 0
Judges (Ok u) q = IsOk q
Judges (Err e) q = Stops e ⊥ (q ≡ Err e)

-- an item at which memory may be refused: it would be taken in, and has bytes
abbrev pub MayGrow : {S : Type 0} → Result S FeedRefusal → Item → Type 0
MayGrow fed x = IsOk fed × (0 < length x.body)

-- an item that needs no copy: it would be taken in, and nothing is kept of what came before, so its bytes take no memory
abbrev pub NeedsNoCopy : {S : Type 0} → Result S FeedRefusal → Phase → Type 0
NeedsNoCopy fed kept = IsOk fed × KeepsNothing kept
