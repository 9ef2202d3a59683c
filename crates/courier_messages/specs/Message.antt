-- Messages as words and as bytes (XSIS 038112, Courier, Message stream).
use Rattle.std.specs.Prelude.{◌≡◌, ℕ, ◌+◌, ◌*◌, ◌/◌, ◌%◌, ◌^◌, ◌<◌, ◌≤◌, List, [], ◌∷◌, length, ◌==◌, nat_lt, if◌then◌else◌, Result, Ok}
use Rattle.std.specs.Prelude.{Err}
use Rattle.courier_types.specs.Pieces.{words_of}
use Rattle.courier_types.specs.Source.{bytes_of}
use Rattle.courier_types.specs.Spelling.{AreWords}
use Rattle.courier_messages.specs.declared.fault.MessageFault.{MessageFault}
use Rattle.courier_messages.specs.declared.fault.MessageFault.TheVariants.{OddLength, ShortMessage, UnknownKind, TooLong}
use Rattle.courier_messages.specs.declared.message.Message.{Message}
use Rattle.courier_messages.specs.declared.message.Message.TheVariants.{Call, Reject, Return, Abort}
use Rattle.courier_messages.specs.declared.reading.TheConstants.{MOST_BYTES}

-- how many words, and how many bytes, a message has at most
abbrev pub most_words : ℕ
most_words = 65536

abbrev pub most_bytes : ℕ
most_bytes = MOST_BYTES

-- the kinds of message: the first word of a message says its kind
abbrev pub call_kind : ℕ
call_kind = 0

abbrev pub reject_kind : ℕ
reject_kind = 1

abbrev pub return_kind : ℕ
return_kind = 2

abbrev pub abort_kind : ℕ
abort_kind = 3

-- the words that are written for a message
abbrev pub message_words : Message → List ℕ
message_words (Call transaction program version procedure words) =
    call_kind ∷ transaction ∷ program / 65536 ∷ program % 65536 ∷ version ∷ procedure ∷ words
message_words (Reject transaction reason words) = reject_kind ∷ transaction ∷ reason ∷ words
message_words (Return transaction words) = return_kind ∷ transaction ∷ words
message_words (Abort transaction error words) = abort_kind ∷ transaction ∷ error ∷ words

abbrev pub message_bytes : Message → List ℕ
message_bytes m = bytes_of (message_words m)

-- the message's numbers are within their types' bounds
abbrev pub IsMessage : Message → Type 0
IsMessage (Call transaction program version procedure words) = (transaction < 2 ^ 16) × (program < 2 ^ 32) × (version < 2 ^ 16)
    × (procedure < 2 ^ 16) × AreWords words
IsMessage (Reject transaction reason words) = (transaction < 2 ^ 16) × (reason < 2 ^ 16) × AreWords words
IsMessage (Return transaction words) = (transaction < 2 ^ 16) × AreWords words
IsMessage (Abort transaction error words) = (transaction < 2 ^ 16) × (error < 2 ^ 16) × AreWords words

-- all of the words together say the message
pub record SpellsMessage (m : Message) (words : List ℕ) : Type 0 where
  pub spells : words ≡ message_words m
  pub numbers : IsMessage m
  pub size : length words ≤ most_words

abbrev pub call_in : ℕ → List ℕ → Result Message MessageFault
call_in transaction (high ∷ low ∷ version ∷ procedure ∷ words) = Ok (Call transaction (high * 65536 + low) version procedure words)
call_in transaction ws = Err ShortMessage

abbrev pub reject_in : ℕ → List ℕ → Result Message MessageFault
reject_in transaction (reason ∷ words) = Ok (Reject transaction reason words)
reject_in transaction [] = Err ShortMessage

abbrev pub abort_in : ℕ → List ℕ → Result Message MessageFault
abort_in transaction (error ∷ words) = Ok (Abort transaction error words)
abort_in transaction [] = Err ShortMessage

-- the message that the words are, whatever their number
abbrev pub message_in : List ℕ → Result Message MessageFault
message_in (kind ∷ transaction ∷ ws) =
    if kind == call_kind then call_in transaction ws
    else if kind == reject_kind then reject_in transaction ws
    else if kind == return_kind then Ok (Return transaction ws)
    else if kind == abort_kind then abort_in transaction ws
    else Err (UnknownKind kind)
message_in ws = Err ShortMessage

abbrev pub unless_long : List ℕ → Result Message MessageFault → Result Message MessageFault
unless_long bytes (Ok m) = if nat_lt most_bytes (length bytes) then Err TooLong else Ok m
unless_long bytes (Err e) = Err e

-- the message that the bytes are, or the first fault
unfoldable pub message_of : List ℕ → Result Message MessageFault
message_of bytes = if length bytes % 2 == 1 then Err OddLength else unless_long bytes (message_in (words_of bytes))
