-- What a flow says, item by item.
use Rattle.std.specs.Prelude.{Bool, true, false, List, [], ◌∷◌, Result, Ok, Err}
use Rattle.xns_spp.specs.declared.item.Item.{Item}
use Rattle.courier_messages.specs.Text.{signs}
use Rattle.courier_messages.specs.Conversation.{Phase, inside}
use Rattle.courier_messages.specs.Phases.{run, said}
use Rattle.courier_messages.specs.Refusal.{MayBeKept}
use Rattle.courier_messages.specs.declared.fault.SessionFault.{SessionFault}
use Rattle.courier_messages.specs.declared.message.Message.{Message}
use Rattle.xns_calls.specs.declared.heard.Heard.{Heard}
use Rattle.xns_calls.specs.declared.heard.Heard.TheVariants as heard
use Rattle.xns_calls.specs.declared.speech.Speech.{Speech}
use Rattle.xns_calls.specs.declared.speech.Speech.TheVariants.{Waiting, Hearing}

-- behind a mark a message begins, and else one is waited for
abbrev pub behind : Bool → Speech
behind true = Hearing (inside [])
behind false = Waiting

-- where the item leads, and after a fault to what stands behind the item
abbrev pub speech_at : Bool → Result Phase SessionFault → Speech
speech_at last (Ok phase) = Hearing phase
speech_at last (Err fault) = behind last

-- what a flow says after an item of datastream 0; while it waits, a mark alone changes something
abbrev pub speech_after : Speech → Item → Speech
speech_after Waiting item = behind item.last
speech_after (Hearing phase) item = speech_at item.last (run phase (signs item))

abbrev pub first_message : List Message → Heard
first_message [] = heard.Nothing
first_message (message ∷ more) = heard.Message message

-- the message that the item ends, or the first fault
abbrev pub heard_at : List Message → Result Phase SessionFault → Heard
heard_at messages (Ok phase) = first_message messages
heard_at messages (Err fault) = heard.Fault fault

-- what is heard with an item of datastream 0
abbrev pub heard_of : Speech → Item → Heard
heard_of Waiting item = heard.Nothing
heard_of (Hearing phase) item = heard_at (said phase (signs item)) (run phase (signs item))

-- an item for which memory may be refused: its bytes are to be kept, and nothing is wrong with them
abbrev pub MayRefuse : Speech → Item → Type 0
MayRefuse Waiting item = ⊥
MayRefuse (Hearing phase) item = MayBeKept phase item.body
