-- What a connection has done, with the closing exchange (XSIS 028112, Sequenced Packet Protocol, Termination).
use Rattle.std.specs.Prelude.{◌≡◌, ◌<◌, ℕ, ◌-◌, List, [], ◌++◌, Bool, true, false, not, ◌&&◌, ◌||◌, ◌==◌, nat_lt, if◌then◌else◌, length, take, drop, Option, Some, None, is_ok}
use Rattle.std.specs.Option.{option_to_list}
use Rattle.courier_sessions.specs.Answering.{has_items}
use Rattle.xns_agenda.specs.declared.progress.Progress.{Progress}
use Rattle.xns_spp.specs.Ends.{is_open}
use Rattle.xns_spp.specs.Growth.{Begins}
use Rattle.xns_spp.specs.Held.{Held, StandsFor}
use Rattle.xns_spp.specs.Receiving.{after_receive}
use Rattle.xns_spp.specs.Sending.{flush_answer, send_answer, waiting_count}
use Rattle.xns_spp.specs.State.{State}
use Rattle.xns_spp.specs.Telling.{out_count, told_answer, unacknowledged_count}
use Rattle.courier_sessions.specs.declared.feed_refusal.FeedRefusal.{FeedRefusal}
use Rattle.xns_spp.specs.declared.item.Item.{Item}
use Rattle.xns_spp.specs.Datastreams.{end_reply_stream, end_stream}
use Rattle.xns_connection.specs.Closing.{closing_item, closing_items, drains, Knows}
use Rattle.xns_connection.specs.Story.{Story, SideHas, ProgramDoesNothing, made_on, out_of, owes_answer, IsMoved, IsListed, IsHeldBack}
use Rattle.xns_connection.specs.declared.closing.Closing.{Closing}
use Rattle.xns_connection.specs.declared.conversation.Conversation.{Conversation}
use Rattle.xns_connection.specs.declared.owed.Owed.{Owed}
use Rattle.xns_connection.specs.declared.side.Side.{Side}

-- the program wants an end, and the side has nothing out and owes no answer
pub record HasLastWord (side : Side) (c : Closing) : Type 0 where
  pub wanted : c.wanted ≡ true
  pub answered : owes_answer side ≡ false
  pub out : out_of side ≡ []

-- End is to be put out, once: behind all that is out, and behind the answer that is owed
abbrev pub owes_end : Conversation → Bool
owes_end t =
    t.closing.wanted && (not (drains t.side t.closing) && (not t.closing.end_sent && (not (owes_answer t.side) && not (has_items (out_of t.side)))))

-- End is put out where it is to be, unless there is no room
abbrev pub HasSaidEnd : Conversation → Type 0
HasSaidEnd t = owes_end t ≡ true → (s : State) → StandsFor t.endpoint s → is_ok (send_answer s (closing_item end_stream)) ≡ false

-- where End was put out since, it was due
abbrev pub EndsWhenDue : (old new : Conversation) → Type 0
EndsWhenDue old new = old.closing.end_sent ≡ false → new.closing.end_sent ≡ true → HasLastWord new.side new.closing

-- EndReply is to be put out
abbrev pub owes_reply : Conversation → Bool
owes_reply t = t.closing.reply_wanted && (not t.closing.reply_sent && (drains t.side t.closing && not (has_items (out_of t.side))))

-- EndReply is put out where it is to be, unless there is no room
abbrev pub HasSaidReply : Conversation → Type 0
HasSaidReply t = owes_reply t ≡ true → (s : State) → StandsFor t.endpoint s → is_ok (send_answer s (closing_item end_reply_stream)) ≡ false

-- something waits for the peer
abbrev pub is_waiting : State → Bool
is_waiting s = not (is_open s.ends) || nat_lt 0 (unacknowledged_count s)

-- how many items are out, if something waits for the peer
abbrev pub waits : State → Option ℕ
waits s = if is_waiting s then Some (out_count s) else None

-- the closing exchange is over, and its last item has arrived
abbrev pub is_over : Closing → State → Bool
is_over c s = c.reply_sent && (c.reply_heard && (unacknowledged_count s == 0))

-- the items that were handed up and not fed to the side
abbrev pub drained : Story → List Item
drained h = drop (length h.fed) (take h.state.handed h.state.taken)

-- End was put out only where the program wants an end, and behind all that the side says
abbrev pub EndsLast : Side → Closing → Type 0
EndsLast side c = c.end_sent ≡ true → (c.wanted ≡ true) × (out_of side ≡ [])

pub record Tells (conversation : Conversation) (h : Story) : Type 0 where
  pub stands : StandsFor conversation.endpoint h.state
  pub has : SideHas h conversation.side
  -- the side was fed what was handed up, all of it until it drains
  pub fed : Begins h.fed (take h.state.handed h.state.taken)
  pub all : drains conversation.side conversation.closing ≡ false → h.fed ≡ take h.state.handed h.state.taken
  pub given : h.given ++ closing_items conversation.closing ≡ h.state.accepted
  pub last : EndsLast conversation.side conversation.closing
  -- the items that were handed up and not fed say what is known of the peer's closing
  pub knows : Knows conversation.closing (drained h)

-- every story of the old connection goes on: the program makes no call and is handed nothing; once the side drains it does so for
-- good, and once it was asked to close it stays asked
pub record Goes (old new : Conversation) : Type 0 where
  pub still : drains new.side new.closing ≡ false → drains old.side old.closing ≡ false
  pub wanted : old.closing.wanted ≡ true → new.closing.wanted ≡ true
  pub on : (h : Story) → Tells old h → (m : Story) × Tells new m × ProgramDoesNothing h m

-- the connection went on, and gives this packet, or none: the first of those that waited and of those made on the way, behind; the others
-- wait, in order
pub record GivesNextPacket (old new : Conversation) (packet : Option (List ℕ)) : Type 0 where
  pub on : (h : Story) → Tells old h
      → (m : Story) × Tells new m × (on : ProgramDoesNothing h m) × (option_to_list packet ++ new.packets.items ≡ old.packets.items ++ made_on on.path)

-- items moved, and nothing was added to the packets that wait; then the connection gives this packet, or none
abbrev pub MovesAndGives : (old new : Conversation) → Option (List ℕ) → Type 0
MovesAndGives old new packet = (mid : Conversation) × Goes old mid × (mid.packets ≡ old.packets) × GivesNextPacket mid new packet

-- the connection went on, and no item is left that may go out for the first time
pub record Rested (old new : Conversation) : Type 0 where
  pub on : (h : Story) → Tells old h → (m : Story) × Tells new m × ProgramDoesNothing h m × (flush_answer m.state ≡ [])

-- the connection went on from where it is after these bytes came
pub record HearsBytes (old new : Conversation) (bytes : List ℕ) : Type 0 where
  pub wanted : old.closing.wanted ≡ true → new.closing.wanted ≡ true
  pub on : (h : Story) → Tells old h → (m : Story) × Tells new m × ProgramDoesNothing (record h { state = after_receive h.state bytes }) m

-- no item waits at the end to be read
abbrev pub NoneWaits : Held → Type 0
NoneWaits endpoint = (s : State) → StandsFor endpoint s → waiting_count s ≡ 0

-- where only closing items are read, none waits
abbrev pub ReadsAll : (old new : Conversation) → Type 0
ReadsAll old new = (h : Story) → Tells old h → drains new.side new.closing ≡ true → NoneWaits new.endpoint

-- the packet without an item that is owed
abbrev pub word_answer : Owed → State → Option (List ℕ)
word_answer o s = if o.asks || o.word then told_answer s o.asks else None

-- where fewer items wait at the end than before, there is more room, and the peer is owed a word
abbrev pub OwesRoom : (old new : Held) → (word : Bool) → Type 0
OwesRoom old new word = (s v : State) → StandsFor old s → StandsFor new v → waiting_count v < waiting_count s → word ≡ true

-- how many items a packet of the peer has acknowledged, where that it opens the connection counts as one, and how many are out then
abbrev pub progress : State → State → Progress
progress s v = record {
  acknowledged = if is_open v.ends && not (is_open s.ends) then 1 else unacknowledged_count s - unacknowledged_count v;
  out = out_count v;
}

-- the connection went on up to where no item can move between the side and its end, and no call is to be rejected
pub record Calm (old new : Conversation) : Type 0 where
  pub on : (h : Story) → Tells old h → (m : Story) × Tells new m × ProgramDoesNothing h m × IsMoved new.side m.state × IsListed new.side

-- something else was done, and then the connection went on up to where no item can move, and no call is to be rejected
pub record CalmFrom (old new : Conversation) (base : Story → Story) : Type 0 where
  pub on : (h : Story) → Tells old h → (m : Story) × Tells new m × ProgramDoesNothing (base h) m × IsMoved new.side m.state × IsListed new.side

-- every story of the old connection went on, from what something else made of it, up to where no more was moved for this reason; till then
-- what came was read
pub record GoesUntil (old : Conversation) (base : Story → Story) (e : FeedRefusal) : Type 0 where
  pub on : (h : Story) → Tells old h → (last : Conversation) × (m : Story) × Tells last m × ProgramDoesNothing (base h) m
      × (drains last.side last.closing ≡ false) × IsHeldBack last.side m.state e
