-- A message without its words (XSIS 038112, Courier, Message stream). The layout of the words is this project's.
use Rattle.std.specs.Prelude.{List, [], ℕ, ◌≡◌, Result, Ok, Err}
use Rattle.courier_messages.specs.declared.fault.MessageFault.{MessageFault}
use Rattle.courier_messages.specs.declared.message.Message.{Message}
use Rattle.courier_messages.specs.declared.message.Message.TheVariants as messages
use Rattle.courier_messages.specs.Message.{message_words}
use Rattle.courier_messages.specs.declared.head.Head.{Head}
use Rattle.courier_messages.specs.declared.head.Head.TheVariants.{Call, Reject, Return, Abort}

abbrev pub with_words : Head → List ℕ → Message
with_words (Call transaction program version procedure) words = messages.Call transaction program version procedure words
with_words (Reject transaction reason) words = messages.Reject transaction reason words
with_words (Return transaction) words = messages.Return transaction words
with_words (Abort transaction error) words = messages.Abort transaction error words

abbrev pub head_in : Message → Head
head_in (messages.Call transaction program version procedure words) = Call transaction program version procedure
head_in (messages.Reject transaction reason words) = Reject transaction reason
head_in (messages.Return transaction words) = Return transaction
head_in (messages.Abort transaction error words) = Abort transaction error

abbrev pub heads_in : Result Message MessageFault → Result Head MessageFault
heads_in (Ok m) = Ok (head_in m)
heads_in (Err e) = Err e

-- a head was read, which with the words that are left makes the message; or the fault of the message was met
abbrev pub ReadsHead : Result Head MessageFault → List ℕ → Result Message MessageFault → Type 0
ReadsHead (Ok head) left read = read ≡ Ok (with_words head left)
ReadsHead (Err e) left read = read ≡ Err e

-- the words that stand behind a message's head
abbrev pub words_in : Message → List ℕ
words_in (messages.Call transaction program version procedure words) = words
words_in (messages.Reject transaction reason words) = words
words_in (messages.Return transaction words) = words
words_in (messages.Abort transaction error words) = words

-- the transaction that a message belongs to
abbrev pub transaction_in : Message → ℕ
transaction_in (messages.Call transaction program version procedure words) = transaction
transaction_in (messages.Reject transaction reason words) = transaction
transaction_in (messages.Return transaction words) = transaction
transaction_in (messages.Abort transaction error words) = transaction

-- the words of a head
abbrev pub head_words : Head → List ℕ
head_words head = message_words (with_words head [])

-- how many words a head has
abbrev pub head_size : Head → ℕ
head_size (Call transaction program version procedure) = 6
head_size (Reject transaction reason) = 3
head_size (Return transaction) = 2
head_size (Abort transaction error) = 3

abbrev pub size_of : Result Head MessageFault → ℕ
size_of (Ok head) = head_size head
size_of (Err e) = 0
