-- How far what can move in a conversation moves: the only thing that is not determined is where it stops when memory is refused.
use Rattle.std.specs.Prelude.{◌≡◌, ℕ, zero, suc, Bool, true, false, not, ◌&&◌, ◌||◌, ◌==◌, Option, Some, None, Result, Ok, Err, if◌then◌else◌, is_ok}
use Rattle.courier_messages.specs.declared.message.Message.{Message}
use Rattle.courier_sessions.specs.Answering.{Answering, has_items, why_unlisted, after_reject}
use Rattle.courier_sessions.specs.Pumping as pumping
use Rattle.courier_sessions.specs.Pumping.{caller_side, server_side}
use Rattle.courier_sessions.specs.declared.feed_refusal.FeedRefusal.{FeedRefusal}
use Rattle.courier_sessions.specs.declared.feed_refusal.FeedRefusal.TheVariants.{Stopped, Busy, TooLong, Attention, Fault, NoMemory}
use Rattle.courier_sessions.specs.declared.unlisted.Unlisted.{Unlisted}
use Rattle.xns_spp.specs.Held.{Held, StandsFor}
use Rattle.xns_spp.specs.Sending.{after_send, after_take, send_answer, take_answer, waiting_count}
use Rattle.xns_spp.specs.State.{State, IsState}
use Rattle.xns_spp.specs.declared.item.Item.{Item}
use Rattle.xns_spp.specs.Datastreams.{end_reply_stream, end_stream}
use Rattle.xns_connection.specs.Closing.{closing_item, drains, after_end_words}
use Rattle.xns_connection.specs.Story.{IsListed, IsUnlisted, has_message, is_stopped, out_of, owes_answer}
use Rattle.xns_connection.specs.declared.closing.Closing.{Closing}
use Rattle.xns_connection.specs.declared.conversation.Conversation.{Conversation}
use Rattle.xns_connection.specs.declared.side.Side.{Side}
use Rattle.xns_connection.specs.declared.side.Side.TheVariants.{Calls, Answers}

-- an end has a history
abbrev pub HasHistory : Held → Type 0
HasHistory e = ∥ ((s : State) × StandsFor e s) ∥₁

-- a conversation with the whole history of its end
pub record ConversationScene : Type 0 where
  pub side : Side
  pub closing : Closing
  pub state : State

-- the scene of a conversation whose end has this history
abbrev pub conversation_scene : Conversation → State → ConversationScene
conversation_scene t s = record { side = t.side; closing = t.closing; state = s }

-- the conversation is at this scene
pub record IsAt (t : Conversation) (x : ConversationScene) : Type 0 where
  pub stands : StandsFor t.endpoint x.state
  pub side : t.side ≡ x.side
  pub closing : t.closing ≡ x.closing

-- ---- items between a side and its end

-- steps were taken up to the last side and this history of the end, where none applies, or where the next item that waits is refused
pub record Led {S : Type 0} (kind : pumping.Side S) (first : S × State) (result : Result (Unit {0}) FeedRefusal) (next : S) (end : State)
    : Type 0 where
  pub last : S
  pub leads : pumping.Leads kind first (last, end)
  pub settled : pumping.Settles kind (last, end) result next
  pub fits : IsState end

-- items moved until this came of it
abbrev pub Pumps : Side → State → Result (Unit {0}) FeedRefusal → Side → State → Type 0
Pumps (Calls t) s result (Calls u) v = Led caller_side (t, s) result u v
Pumps (Calls t) s result (Answers b) v = ⊥
Pumps (Answers a) s result (Calls u) v = ⊥
Pumps (Answers a) s result (Answers b) v = Led server_side (a, s) result b v

-- the call that waits and is not listed was rejected
pub data Rejects : Side → Side → Type 0 where
  rejects : (a : Answering) (m : Message) (u : Unlisted) → a.call ≡ Some m → why_unlisted a.programs m ≡ Some u
      → Rejects (Answers a) (Answers (after_reject a m u))

-- items moved until none could, as often as a call was rejected, and once before
pub data Rounds (side : Side) (s : State) : Side → State → Type 0 where
  once : {next : Side} {v : State} → Pumps side s (Ok tt) next v → Rounds side s next v
  again : {mid free next : Side} {v w : State} → Rounds side s mid v → is_stopped mid ≡ false → Rejects mid free → Pumps free v (Ok tt) next w
      → Rounds side s next w

-- items moved, and calls were rejected, until nothing moves and no call is to be rejected, or the side refuses an item, or memory is refused
pub data Converses (side : Side) (s : State) : Result (Unit {0}) FeedRefusal → Side → State → Type 0 where
  calms : {next : Side} {v : State} → Rounds side s next v → (is_stopped next ≡ false → IsListed next) → Converses side s (Ok tt) next v
  starves : {next : Side} {v : State} → Rounds side s next v → IsUnlisted next → Converses side s (Err NoMemory) next v
  refuses : {next : Side} {v : State} (e : FeedRefusal) → Pumps side s (Err e) next v → Converses side s (Err e) next v
  refuses_on : {mid free next : Side} {v w : State} (e : FeedRefusal) → Rounds side s mid v → is_stopped mid ≡ false → Rejects mid free
      → Pumps free v (Err e) next w → Converses side s (Err e) next w

-- ---- the closing exchange

-- the item that waits first is taken, and what it says of closing is noted
abbrev pub noting : Option Item → ConversationScene → ConversationScene
noting None x = x
noting (Some item) x = record x { closing = after_end_words x.closing item.stream; state = after_take x.state }

abbrev pub taken_one : ConversationScene → ConversationScene
taken_one x = noting (take_answer x.state) x

unfoldable pub taken_many : ℕ → ConversationScene → ConversationScene
taken_many zero x = x
taken_many (suc n) x = taken_one (taken_many n x)

-- all that waits is taken where it is looked at for the closing exchange alone
abbrev pub drained_out : ConversationScene → ConversationScene
drained_out x = if drains x.side x.closing then taken_many (waiting_count x.state) x else x

-- End is to be put out, once: behind all that is out, and behind the answer that is owed
abbrev pub may_end : ConversationScene → Bool
may_end x =
    x.closing.wanted && (not (drains x.side x.closing) && (not x.closing.end_sent && (not (owes_answer x.side) && not (has_items (out_of x.side)))))

-- EndReply is to be put out
abbrev pub may_reply : ConversationScene → Bool
may_reply x = x.closing.reply_wanted && (not x.closing.reply_sent && (drains x.side x.closing && not (has_items (out_of x.side))))

-- End is put out where it is to be, unless there is no room
abbrev pub with_end_out : ConversationScene → ConversationScene
with_end_out x =
    if may_end x && is_ok (send_answer x.state (closing_item end_stream))
    then record x { closing = record x.closing { end_sent = true }; state = after_send x.state (closing_item end_stream) } else x

-- EndReply is put out where it is to be, unless there is no room
abbrev pub replied : ConversationScene → ConversationScene
replied x =
    if may_reply x && is_ok (send_answer x.state (closing_item end_reply_stream))
    then record x { closing = record x.closing { reply_sent = true }; state = after_send x.state (closing_item end_reply_stream) } else x

abbrev pub closed_up : ConversationScene → ConversationScene
closed_up x = replied (drained_out (with_end_out x))

-- what comes is read no more, but for the closing exchange
abbrev pub deafened : ConversationScene → ConversationScene
deafened x = record x { closing = record x.closing { deaf = true } }

-- ---- all that can move

-- where items moved so far, this is what comes of it: where memory was refused, nothing more; where the side refused an item it reads no
-- more, and else, as then, what is to be said of closing is said
abbrev pub settled_by : Result (Unit {0}) FeedRefusal → ConversationScene → ConversationScene
settled_by (Ok u) x = closed_up x
settled_by (Err NoMemory) x = x
settled_by (Err Stopped) x = closed_up (deafened x)
settled_by (Err Busy) x = closed_up (deafened x)
settled_by (Err TooLong) x = closed_up (deafened x)
settled_by (Err Attention) x = closed_up (deafened x)
settled_by (Err (Fault f)) x = closed_up (deafened x)

-- items moved from this scene until this came of it: none, where what comes is looked at for the closing exchange alone
pub data Moves (x : ConversationScene) : Result (Unit {0}) FeedRefusal → ConversationScene → Type 0 where
  drains_only : drains x.side x.closing ≡ true → Moves x (Ok tt) x
  converses : {result : Result (Unit {0}) FeedRefusal} {next : Side} {v : State} → drains x.side x.closing ≡ false
      → Converses x.side x.state result next v → Moves x result (record x { side = next; state = v })

-- all that can move from this scene has moved: `moved` says whether the side refused an item, or memory was refused
pub record MovesAll (x : ConversationScene) (moved : Result (Unit {0}) FeedRefusal) (to : ConversationScene) : Type 0 where
  pub mid : ConversationScene
  pub moves : Moves x moved mid
  pub is : to ≡ settled_by moved mid

-- nothing can move, and nothing is to be said or read of closing
abbrev pub is_calm : ConversationScene → Bool
is_calm x =
    not (drains x.side x.closing || x.closing.wanted) && (not (has_items (out_of x.side) || has_message x.side) && (waiting_count x.state == 0))
