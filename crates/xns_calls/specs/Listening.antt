-- What is heard of items, one after the other.
use Rattle.std.specs.Prelude.{◌≡◌, ℕ, false, List, [], ◌∷◌, ◌++◌}
use Rattle.xns_spp.specs.declared.item.Item.{Item}
use Rattle.courier_messages.specs.declared.message.Message.{Message}
use Rattle.xns_calls.specs.declared.heard.Heard.{Heard}
use Rattle.xns_calls.specs.declared.heard.Heard.TheVariants as heard
use Rattle.xns_calls.specs.declared.speech.Speech.{Speech}
use Rattle.xns_calls.specs.declared.heading.Heading.{Heading}
use Rattle.xns_calls.specs.Unanswered.{UnansweredCalls}
use Rattle.xns_calls.specs.Reading.{Told, said_item}
use Rattle.xns_calls.specs.Speech.{speech_after, heard_of}
use Rattle.xns_calls.specs.Telling.{after_message, is_fault, message_line}

-- the message that is heard, if it is one
abbrev pub messages_in : Heard → List Message
messages_in heard.Nothing = []
messages_in (heard.Message message) = message ∷ []
messages_in (heard.Fault fault) = []

-- the messages that are heard with items of datastream 0, in order
abbrev pub messages_heard : Speech → List Item → List Message
messages_heard speech [] = []
messages_heard speech (item ∷ items) = messages_in (heard_of speech item) ++ messages_heard (speech_after speech item) items

-- ---- what is printed of them

-- items of datastream 0, each at a line, are said in order
abbrev pub said_items : List (Heading × Item) → Told → Told
said_items [] t = t
said_items (x ∷ items) t = said_items items (said_item x.0 x.1 t)

-- no fault is heard with them
abbrev pub AreFaultless : Speech → List (Heading × Item) → Type 0
AreFaultless speech [] = Unit {0}
AreFaultless speech (x ∷ items) = (is_fault (heard_of speech x.1) ≡ false) × AreFaultless (speech_after speech x.1) items

abbrev pub at_line : Heading → List Message → List (Heading × Message)
at_line heading [] = []
at_line heading (message ∷ more) = (heading, message) ∷ at_line heading more

-- the messages that are heard, each at the line of the item that ends it
abbrev pub heard_at_lines : Speech → List (Heading × Item) → List (Heading × Message)
heard_at_lines speech [] = []
heard_at_lines speech (x ∷ items) = at_line x.0 (messages_in (heard_of speech x.1)) ++ heard_at_lines (speech_after speech x.1) items

-- the lines of messages in order, where these calls have no answer at first
abbrev pub message_lines : UnansweredCalls → List (Heading × Message) → List ℕ
message_lines calls [] = []
message_lines calls (x ∷ more) = message_line x.0 calls x.1 ++ message_lines (after_message x.0 calls x.1) more
