-- A flow of which the capture has each item, and what is printed of it.
use Rattle.std.specs.Prelude.{◌≡◌, ◌<◌, ◌==◌, ℕ, ◌+◌, ◌-◌, nat_lt, if◌then◌else◌, List, [], ◌∷◌, ◌++◌, length, drop, map, slice_get, Option, Some, None, IfOk}
use Rattle.std.specs.List.{filter, flat_map}
use Rattle.xns_spp.specs.declared.item.Item.{Item}
use Rattle.courier_messages.specs.Conversation.{conversation, ending}
use Rattle.courier_messages.specs.declared.message.Message.{Message}
use Rattle.xns_calls.specs.Events.{AreWithinReach, Event, IsAmong, acknowledged, acknowledged_event, after_event, after_events, captured, captured_in, meanwhile, read}
use Rattle.xns_calls.specs.Exchange.{behind_last, is_repeat, up_to}
use Rattle.xns_calls.specs.Listening.{messages_in}
use Rattle.xns_calls.specs.Numbers.{most_early}
use Rattle.xns_calls.specs.Queue.{last_kept_number}
use Rattle.xns_calls.specs.Reading.{Told, read_next}
use Rattle.xns_calls.specs.Speech.{heard_of}
use Rattle.xns_calls.specs.Telling.{heard_text, message_line}
use Rattle.xns_calls.specs.declared.early.Early.{Early}
use Rattle.xns_calls.specs.declared.heading.Heading.{Heading}
use Rattle.xns_calls.specs.declared.heard.Heard.{Heard}
use Rattle.xns_calls.specs.Unanswered.{UnansweredCalls}

-- an item that is captured is the one of its number
abbrev pub HasItsItem : List Item → Event → Type 0
HasItsItem items (captured heading number item) = slice_get items number ≡ Some item.item
HasItsItem items (acknowledged heading number) = Unit {0}
HasItsItem items (read heading) = Unit {0}
HasItsItem items (meanwhile calls text is_refused) = Unit {0}

abbrev pub AreOf : List Item → List Event → Type 0
AreOf items [] = Unit {0}
AreOf items (e ∷ more) = HasItsItem items e × AreOf items more

-- each item of the flow is captured, in whatever order within 63 numbers of its place, and before what acknowledges it takes effect;
-- repeats may come at any time
pub record IsWhole (items : List Item) (events : List Event) : Type 0 where
  pub of : AreOf items events
  pub all : (number : ℕ) → number < length items → IsAmong number (captured_in events [])
  pub reach : AreWithinReach 0 [] events

-- the events, and behind them that all that the flow keeps is read, as at the end of the input
abbrev pub with_end_read : Heading → List Event → Told → List Event
with_end_read heading events t = events ++ acknowledged_event heading (behind_last (Some (after_events events t).track))

-- what an event of the flow prints behind the text that there is; what others do meanwhile is not the flow's
abbrev pub new_text : Event → Told → List ℕ
new_text (captured heading number item) t = drop (length t.text) (after_event (captured heading number item) t).text
new_text (acknowledged heading number) t = drop (length t.text) (after_event (acknowledged heading number) t).text
new_text (read heading) t = drop (length t.text) (after_event (read heading) t).text
new_text (meanwhile calls text is_refused) t = []

abbrev pub flow_text : List Event → Told → List ℕ
flow_text [] t = []
flow_text (e ∷ more) t = new_text e t ++ flow_text more (after_event e t)

-- the items of datastream 0, which are Courier's
abbrev pub of_courier : List Item → List Item
of_courier items = filter (λ item. item.stream == 0) items

-- ---- what is heard of a flow of which no item is missing

-- what is heard of an item, at the line at which it is read, and the calls without an answer before it
abbrev pub ToldHeard : Type 0
ToldHeard = Heading × UnansweredCalls × Heard

-- only items of datastream 0 are heard
abbrev pub heard_with : Heading → Item → Told → List ToldHeard
heard_with heading item t = if item.stream == 0 then (heading, t.calls, heard_of t.track.speech item) ∷ [] else []

-- the items that are kept below the number are read
abbrev pub heard_below : Heading → ℕ → List Early → Told → List ToldHeard
heard_below heading number [] t = []
heard_below heading number (early ∷ rest) t =
    if nat_lt early.number number then heard_with heading early.item.item t
    ++ heard_below heading number rest (read_next heading (early.number + 1) early.item.item (record t { track = record t.track { early = rest } }))
    else []

abbrev pub heard_below_if : Heading → Option ℕ → Told → List ToldHeard
heard_below_if heading None t = []
heard_below_if heading (Some number) t = heard_below heading number t.track.early t

abbrev pub heard_first : Heading → List Early → Told → List ToldHeard
heard_first heading [] t = []
heard_first heading (early ∷ rest) t = if nat_lt t.track.next early.number then [] else heard_with heading early.item.item t

-- what is heard as an event has items read: at the line of the event
abbrev pub new_heard : Event → Told → List ToldHeard
new_heard (captured heading number item) t = if is_repeat number t.track then [] else heard_below heading (number - most_early) t.track.early t
new_heard (acknowledged heading number) t = heard_below_if heading (up_to (last_kept_number t.track.early) (Some number)) t
new_heard (read heading) t = heard_first heading t.track.early t
new_heard (meanwhile calls text is_refused) t = []

abbrev pub flow_heard : List Event → Told → List ToldHeard
flow_heard [] t = []
flow_heard (e ∷ more) t = new_heard e t ++ flow_heard more (after_event e t)

-- the lines of what is heard
abbrev pub heard_lines : List ToldHeard → List ℕ
heard_lines told = flat_map (λ x. heard_text x.0 x.1 x.2) told

-- ---- its messages

-- a message, at the line at which it is whole, and the calls without an answer before it
abbrev pub ToldMessage : Type 0
ToldMessage = Heading × UnansweredCalls × Message

abbrev pub told_message : ToldHeard → List ToldMessage
told_message x = map (λ message. (x.0, x.1, message)) (messages_in x.2)

-- the messages that are heard
abbrev pub told_messages : List ToldHeard → List ToldMessage
told_messages told = flat_map told_message told

abbrev pub told_lines : List ToldMessage → List ℕ
told_lines messages = flat_map (λ x. message_line x.0 x.1 x.2) messages

-- of what is heard the text is the lines; the messages that are heard first are those of the conversation, and their lines are the first of the
-- text. More is heard, and more stands behind them, only where the conversation has a fault
pub record SaysConversation (fed : List Item) (told : List ToldHeard) (text : List ℕ) : Type 0 where
  pub all : text ≡ heard_lines told
  pub messages : List ToldMessage
  pub more : List ℕ
  pub lines : text ≡ told_lines messages ++ more
  pub said : map (λ x. x.2) messages ≡ conversation fed
  pub others : List ToldMessage
  pub heard : told_messages told ≡ messages ++ others
  pub whole : IfOk (ending fed) (λ phase. (more ≡ []) × (others ≡ []))
