-- What the side that is called makes of its peer's messages (XSIS 038112, Courier, Remote procedures and errors). A
-- message that is not a call is a fault, and comes before the faults behind it: that is this project's rule.
use Rattle.std.specs.Prelude.{ℕ, List, [], ◌∷◌, map, Bool, true, false, if◌then◌else◌, Result, Err}
use Rattle.xns_spp.specs.declared.item.Item.{Item}
use Rattle.courier_messages.specs.declared.fault.SessionFault.{SessionFault}
use Rattle.courier_messages.specs.declared.fault.SessionFault.TheVariants.{BadReply}
use Rattle.courier_messages.specs.declared.message.Message.{Message}
use Rattle.courier_messages.specs.declared.message.Message.TheVariants.{Call}
use Rattle.courier_messages.specs.Conversation.{Phase, conversation, ending}
use Rattle.courier_messages.specs.RawCalls.{RawCall}

-- the calls up to the first message that is not one, each with its transaction
unfoldable pub calls_of : List Message → List (ℕ × RawCall)
calls_of [] = []
calls_of (Call transaction program version procedure words ∷ ms) =
    (transaction, record { program = program; version = version; procedure = procedure; words = words }) ∷ calls_of ms
calls_of (m ∷ ms) = []

-- whether each message is a call
unfoldable pub all_calls : List Message → Bool
all_calls [] = true
all_calls (Call transaction program version procedure words ∷ ms) = all_calls ms
all_calls (m ∷ ms) = false

-- the calls without their transactions
abbrev pub raws : List (ℕ × RawCall) → List RawCall
raws cs = map (λ c. c.1) cs

-- the end of a conversation as a server takes it: a message that is not a call is a fault, which comes before those of
-- the text behind it
abbrev pub called_ending : List Message → Result Phase SessionFault → Result Phase SessionFault
called_ending ms q = if all_calls ms then q else Err BadReply

-- the phase of a server in the conversation, or the first fault
abbrev pub server_ending : List Item → Result Phase SessionFault
server_ending items = called_ending (conversation items) (ending items)
