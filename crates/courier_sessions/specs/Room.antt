-- How many words a message has of its own: room for so many always serves.
use Rattle.std.specs.Prelude.{ℕ, ◌≤◌, length}
use Rattle.courier_messages.specs.declared.message.Message.{Message}
use Rattle.courier_messages.specs.declared.message.Message.TheVariants.{Call, Reject, Return, Abort}
use Rattle.courier_messages.specs.RawCalls.{most_call_words}

-- a message has at most 131,072 bytes, four of them before its words at least
abbrev pub most_message_words : ℕ
most_message_words = 65534

abbrev pub MessageHasRoom : Message → Type 0
MessageHasRoom (Call transaction program version procedure words) = length words ≤ most_call_words
MessageHasRoom (Reject transaction reason words) = length words ≤ most_message_words
MessageHasRoom (Return transaction words) = length words ≤ most_message_words
MessageHasRoom (Abort transaction error words) = length words ≤ most_message_words
