-- What is done at a connection, and what comes of it when what can move has moved.
use Rattle.std.specs.Prelude.{◌≡◌, ◌≢◌, ℕ, List, [], ◌∷◌, ◌++◌, Bool, true, false, not, ◌||◌, if◌then◌else◌, length, nat_lt, Option, Some, None, Result, Ok, Err, is_ok}
use Rattle.courier_messages.specs.RawCalls.{RawCall}
use Rattle.courier_messages.specs.declared.message.Message.{Message}
use Rattle.courier_sessions.specs.Answering as answering
use Rattle.courier_sessions.specs.Answering.{Answering, after_call, answer_message}
use Rattle.courier_sessions.specs.Talk as talk
use Rattle.courier_sessions.specs.declared.answer.Answer.{Answer}
use Rattle.courier_sessions.specs.declared.feed_refusal.FeedRefusal.{FeedRefusal}
use Rattle.courier_sessions.specs.declared.feed_refusal.FeedRefusal.TheVariants.{Stopped, Busy, TooLong, Attention, Fault, NoMemory}
use Rattle.std.specs.Option.{is_some}
use Rattle.xns_agenda.specs.Waiting.{StepsAt, Waiting, act_at, after_by, after_step, lingering}
use Rattle.xns_agenda.specs.declared.act.Act.{Act}
use Rattle.xns_agenda.specs.declared.act.Act.TheVariants.{Nothing, Again, Ask, GiveUp, Forget}
use Rattle.xns_spp.specs.Held.{StandsFor}
use Rattle.xns_spp.specs.Receiving.{after_receive}
use Rattle.xns_spp.specs.Sending.{waiting_count}
use Rattle.xns_spp.specs.State.{State}
use Rattle.xns_connection.specs.Closing.{drains, wants_word}
use Rattle.xns_connection.specs.Connecting.{owed_after, owed_heard, wait_heard, why_after, why_given_up}
use Rattle.xns_connection.specs.Moving.{ConversationScene, IsAt, MovesAll, deafened, conversation_scene}
use Rattle.xns_connection.specs.Story.{Story, asked_of, listed_call, waiting_message, with_handed}
use Rattle.xns_connection.specs.Telling.{is_over, waits}
use Rattle.xns_connection.specs.declared.conversation.Conversation.{Conversation}
use Rattle.xns_connection.specs.declared.owed.Owed.{Owed}
use Rattle.xns_connection.specs.declared.side.Side.{Side}
use Rattle.xns_connection.specs.declared.side.Side.TheVariants.{Calls, Answers}
use Rattle.xns_connection.specs.declared.why.Why.{Why}
use Rattle.xns_connection.specs.declared.why.Why.TheVariants.{NotServed, Silent}

-- ---- what is done

-- what is done at a connection: nothing; it is asked to close; the program makes a call, gives an answer of these words, or takes the message
-- that waits; bytes come
pub data Deed : Type 0 where
  nothing : Deed
  asked : Deed
  made : RawCall → Deed
  gave : Answer → List ℕ → Deed
  took : Deed
  heard : List ℕ → Deed

-- ---- what a deed does to a side

-- the side with one more call
abbrev pub side_called : Side → RawCall → Side
side_called (Calls t) call = Calls (talk.called t call)
side_called (Answers a) call = Answers a

abbrev pub answered_for : Option ℕ → Answering → Answer → List ℕ → Answering
answered_for None a kind words = a
answered_for (Some k) a kind words = answering.with_answer_out a (answer_message kind k words)

-- the side with an answer to the call that was handed
abbrev pub side_answered : Side → Answer → List ℕ → Side
side_answered (Calls t) kind words = Calls t
side_answered (Answers a) kind words = Answers (answered_for a.asked a kind words)

abbrev pub handed_by : Option Message → Answering → Answering
handed_by None a = a
handed_by (Some m) a = after_call a m

-- the side when the message that waits was handed
abbrev pub side_taken : Side → Side
side_taken (Calls t) = Calls (record t { outcome = None })
side_taken (Answers a) = Answers (handed_by (listed_call a.programs a.call) a)

-- ---- what a deed does to a conversation

-- what the program does leaves the rest of a conversation as it was: its end, the packets that wait, and whether what comes is read
pub record KeepsRest (old new : Conversation) : Type 0 where
  pub endpoint : new.endpoint ≡ old.endpoint
  pub packets : new.packets ≡ old.packets
  pub drains : drains new.side new.closing ≡ drains old.side old.closing

abbrev pub done : Deed → ConversationScene → ConversationScene
done nothing x = x
done asked x = record x { closing = record x.closing { wanted = true } }
done (made call) x = record x { side = side_called x.side call }
done (gave kind words) x = record x { side = side_answered x.side kind words }
done took x = record x { side = side_taken x.side }
done (heard bytes) x = record x { state = after_receive x.state bytes }

-- ---- what a deed adds to what a conversation has done

abbrev pub with_answer : Option ℕ → Answer → List ℕ → Story → Story
with_answer None kind words h = h
with_answer (Some k) kind words h = record h { answers = h.answers ++ answer_message kind k words ∷ [] }

abbrev pub with_taken : Option Message → Side → Story → Story
with_taken None side h = h
with_taken (Some m) side h = with_handed side h m

abbrev pub told_by : Deed → Side → Story → Story
told_by nothing side h = h
told_by asked side h = h
told_by (made call) side h = record h { made = h.made ++ call ∷ [] }
told_by (gave kind words) side h = with_answer (asked_of side) kind words h
told_by took side h = with_taken (waiting_message side) side h
told_by (heard bytes) side h = record h { state = after_receive h.state bytes }

abbrev pub wanted_by : Deed → Bool → Bool
wanted_by asked w = true
wanted_by deed w = w

-- ---- what is owed and waited for when it is done, before anything moves

abbrev pub owed_by : Deed → Owed → Waiting → State → (now : ℕ) → Owed
owed_by (heard bytes) o w s now = owed_heard o w s bytes now
owed_by deed o w s now = o

abbrev pub wait_after_deed : Deed → Waiting → State → (now : ℕ) → Waiting
wait_after_deed (heard bytes) w s now = wait_heard w s bytes now
wait_after_deed deed w s now = w

-- ---- what comes of moving

-- memory was refused
abbrev pub is_starved : Result (Unit {0}) FeedRefusal → Bool
is_starved (Ok u) = false
is_starved (Err NoMemory) = true
is_starved (Err Stopped) = false
is_starved (Err Busy) = false
is_starved (Err TooLong) = false
is_starved (Err Attention) = false
is_starved (Err (Fault f)) = false

-- the side refused an item
abbrev pub has_refused_item : Result (Unit {0}) FeedRefusal → Bool
has_refused_item moved = not (is_ok moved || is_starved moved)

-- memory that was refused is noted; where fewer items wait than before, the peer is owed a word
abbrev pub owed_moved : Owed → (starved : Bool) → (before after : ℕ) → Owed
owed_moved o starved before after = record o { moving = starved; word = o.word || nat_lt after before; fresh = true }

-- a connection that is closed stays closed, for the same reason
abbrev pub closed_moved : Option Why → Result (Unit {0}) FeedRefusal → ConversationScene → Option Why
closed_moved (Some why) moved x = Some why
closed_moved None moved x = why_after x.closing (is_over x.closing x.state) moved

-- where the step closed the connection, what comes is read no more
abbrev pub shut : (was closed : Option Why) → ConversationScene → ConversationScene
shut (Some why) closed x = x
shut None None x = x
shut None (Some why) x = deafened x

-- where the step closed the connection, it lingers
abbrev pub wait_moved : (was closed : Option Why) → Waiting → ConversationScene → (now : ℕ) → Waiting
wait_moved (Some why) closed w x now = w
wait_moved None None w x now = after_step w (waits x.state) (wants_word x.side x.closing) now
wait_moved None (Some why) w x now = lingering w now

-- the conversation reads only items of the closing exchange
abbrev pub given_up : Conversation → Conversation
given_up t = record t { closing = record t.closing { deaf = true } }

-- where the step closed the connection, the conversation reads only items of the closing exchange
abbrev pub given_up_by : (was closed : Option Why) → Conversation → Conversation
given_up_by (Some why) closed t = t
given_up_by None None t = t
given_up_by None (Some why) t = given_up t

-- how a connection was closed whose items moved, if it was
pub record ClosesThen (now : ℕ) (old : Conversation) (moved : Result (Unit {0}) FeedRefusal) (new : Conversation) (was closed : Option Why)
    (wait wait_new : Waiting) : Type 0 where
  pub why : (s : State) → StandsFor old.endpoint s → closed ≡ closed_moved was moved (conversation_scene old s)
  pub stays : was ≢ None → closed ≡ was
  pub is : new ≡ given_up_by was closed old
  pub waits : (s : State) → StandsFor old.endpoint s → wait_new ≡ wait_moved was closed wait (conversation_scene old s) now
  pub steps : StepsAt now wait wait_new

-- from this scene, and from what is owed, waited for and told then, what can move moved, and this came of it
pub record Moved (now : ℕ) (x : ConversationScene) (moved : Result (Unit {0}) FeedRefusal) (new : Conversation) (owed owed_new : Owed)
    (was closed : Option Why) (wait wait_new : Waiting) : Type 0 where
  pub to : ConversationScene
  pub settles : MovesAll x moved to
  pub at : IsAt new (shut was closed to)
  pub why : closed ≡ closed_moved was moved to
  pub owes : owed_new ≡ owed_moved owed (is_starved moved) (waiting_count x.state) (waiting_count to.state)
  pub waits : wait_new ≡ wait_moved was closed wait to now

-- from these parts of a connection, whatever the history of its end, what can move moved
pub record GoesOnBy (now : ℕ) (old new : Conversation) (owed owed_new : Owed) (was closed : Option Why) (wait wait_new : Waiting)
    : Type 0 where
  pub moved : Result (Unit {0}) FeedRefusal
  pub on : (s : State) → StandsFor old.endpoint s → Moved now (conversation_scene old s) moved new owed owed_new was closed wait wait_new
  pub packets : new.packets ≡ old.packets
  pub stays : was ≢ None → closed ≡ was
  pub steps : StepsAt now wait wait_new

-- ---- steps that move nothing

-- the parts of a connection
pub record Parts : Type 0 where
  pub conversation : Conversation
  pub wait : Waiting
  pub owed : Owed
  pub closed : Option Why
  pub told : Bool

-- why the connection is closed where it is given up for this reason
abbrev pub why_left : Conversation → (reason : Why) → Why
why_left t reason = why_given_up t.closing (length t.endpoint.unacknowledged) reason

-- nobody hears the packets of the connection, as an Error packet of this number says: it is closed, unless it is closed already
abbrev pub unserved : Parts → (number now : ℕ) → Parts
unserved p number now =
    if is_some p.closed then p
    else record p { conversation = given_up p.conversation; closed = Some (why_left p.conversation (NotServed number)); wait = lingering p.wait now }

-- what is due is done: a packet is owed, or the connection is closed, or may go
abbrev pub acted_by : Parts → Act → (now : ℕ) → Parts
acted_by p Nothing now = p
acted_by p Again now = record p { wait = after_by p.wait Again now; owed = owed_after p.owed Again }
acted_by p Ask now = record p { wait = after_by p.wait Ask now; owed = owed_after p.owed Ask }
acted_by p GiveUp now =
    record p { conversation = given_up p.conversation; closed = Some (why_left p.conversation Silent); wait = after_by p.wait GiveUp now }
acted_by p Forget now = record p { wait = after_by p.wait Forget now }

abbrev pub acted : Parts → (now : ℕ) → Parts
acted p now = acted_by p (act_at p.wait now) now
