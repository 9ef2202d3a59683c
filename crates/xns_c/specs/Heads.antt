-- What stands before the words of Courier's messages, as C has it.
use Rattle.std.specs.Prelude.{ℕ, ◌==◌, if◌then◌else◌, List, Option, Some, None}
use Rattle.courier_messages.specs.declared.message.Message.{Message}
use Rattle.courier_messages.specs.declared.message.Message.TheVariants as messages
use Rattle.courier_sessions.specs.declared.answer.Answer.{Answer}
use Rattle.courier_sessions.specs.declared.answer.Answer.TheVariants.{Reject, Return, Abort}
use Rattle.xns_c.specs.declared.message.XnsMessage.{XnsMessage}

-- the message of these parts, if its kind is one of the four
abbrev pub message_given : XnsMessage → List ℕ → Option Message
message_given m words =
    if m.kind == 0 then Some (messages.Call m.transaction m.program m.version m.procedure words)
    else if m.kind == 1 then Some (messages.Reject m.transaction m.number words)
    else if m.kind == 2 then Some (messages.Return m.transaction words)
    else if m.kind == 3 then Some (messages.Abort m.transaction m.number words)
    else None

-- what stands before the words of a message that is no call, as C is told it: a field that its kind does not have is 0
abbrev pub short_head : (kind transaction number : ℕ) → XnsMessage
short_head kind transaction number =
    record { kind = kind; transaction = transaction; program = 0; version = 0; procedure = 0; number = number }

-- what stands before the words of a message, as C is told it
abbrev pub head_given : Message → XnsMessage
head_given (messages.Call transaction program version procedure words) =
    record { kind = 0; transaction = transaction; program = program; version = version; procedure = procedure; number = 0 }
head_given (messages.Reject transaction reason words) = short_head 1 transaction reason
head_given (messages.Return transaction words) = short_head 2 transaction 0
head_given (messages.Abort transaction error words) = short_head 3 transaction error

-- the answer of this kind: 1 a reject, 2 a return, 3 an abort
abbrev pub answer_of_kind : ℕ → ℕ → Option Answer
answer_of_kind kind code =
    if kind == 1 then Some (Reject code)
    else if kind == 2 then Some Return
    else if kind == 3 then Some (Abort code)
    else None
