-- What is printed of what is heard.
use Rattle.std.specs.Prelude.{ℕ, ◌==◌, Bool, true, false, if◌then◌else◌, List, [], ◌++◌, codes, Option, Some, None}
use Rattle.std.specs.Fmt.{decimal}
use Rattle.courier_messages.specs.declared.message.Message.{Message}
use Rattle.courier_messages.specs.declared.message.Message.TheVariants.{Call, Reject, Return, Abort}
use Rattle.xns_dump.specs.Layers.Courier.{callee_text}
use Rattle.xns_calls.specs.Unanswered.{UnansweredCalls}
use Rattle.xns_calls.specs.declared.heading.Heading.{Heading}
use Rattle.xns_calls.specs.declared.heard.Heard.{Heard}
use Rattle.xns_calls.specs.declared.heard.Heard.TheVariants as heard
use Rattle.xns_calls.specs.declared.waiting.Waiting.{Waiting}
use Rattle.xns_calls.specs.Naming.{ShownModel, named_abort, named_call, named_or, named_return}
use Rattle.xns_calls.specs.Texts.{answer_end, answer_front, call_end, call_front, refused_line, words_behind}

abbrev pub call_if : ℕ → Waiting → Option Waiting
call_if transaction waiting = if waiting.transaction == transaction then Some waiting else None

-- the call that an answer of this transaction is for, if one waits
abbrev pub asked_call : Option Waiting → ℕ → Option Waiting
asked_call None transaction = None
asked_call (Some waiting) transaction = call_if transaction waiting

-- the call has its answer then
abbrev pub call_left : Option Waiting → ℕ → Option Waiting
call_left None transaction = None
call_left (Some waiting) transaction = if waiting.transaction == transaction then None else Some waiting

-- an answer to the call that waits, behind what it is: what it says by name, or else by numbers
abbrev pub answer_line : Heading → List ℕ → ℕ → Option Waiting → List ℕ → ShownModel → List ℕ
answer_line heading name transaction of numbers shown =
    answer_front heading name transaction of ++ named_or numbers shown ++ answer_end of heading.origin.time shown

abbrev pub call_line : Heading → ℕ → List ℕ → ShownModel → List ℕ
call_line heading transaction numbers shown = call_front heading transaction ++ named_or numbers shown ++ call_end shown

-- the line of a message; a reject has no name
abbrev pub message_line : Heading → UnansweredCalls → Message → List ℕ
message_line heading calls (Call transaction program version procedure words) =
    call_line heading transaction (callee_text program version procedure ++ words_behind (codes " args ") words)
    (named_call heading.origin.programs program version procedure words)
message_line heading calls (Reject transaction reason words) =
    answer_line heading (codes " reject ") transaction (asked_call calls.asked transaction)
    (codes " reason " ++ decimal reason ++ words_behind (codes " words ") words) None
message_line heading calls (Return transaction words) =
    answer_line heading (codes " return ") transaction (asked_call calls.asked transaction) (words_behind (codes " results ") words)
    (named_return heading.origin.programs (asked_call calls.asked transaction) words)
message_line heading calls (Abort transaction error words) =
    answer_line heading (codes " abort ") transaction (asked_call calls.asked transaction)
    (codes " error " ++ decimal error ++ words_behind (codes " args ") words)
    (named_abort heading.origin.programs (asked_call calls.asked transaction) error words)

abbrev pub after_answer : UnansweredCalls → ℕ → UnansweredCalls
after_answer calls transaction = record calls { asked = call_left calls.asked transaction }

-- a call is the flow's call without an answer, and an answer answers that of the flow behind
abbrev pub after_message : Heading → UnansweredCalls → Message → UnansweredCalls
after_message heading calls (Call transaction program version procedure words) = record calls {
  own = Some (record {
    transaction = transaction;
    program = program;
    version = version;
    procedure = procedure;
    number = heading.origin.number;
    time = heading.origin.time;
  });
}
after_message heading calls (Reject transaction reason words) = after_answer calls transaction
after_message heading calls (Return transaction words) = after_answer calls transaction
after_message heading calls (Abort transaction error words) = after_answer calls transaction

-- the line of what is heard
abbrev pub heard_text : Heading → UnansweredCalls → Heard → List ℕ
heard_text heading calls heard.Nothing = []
heard_text heading calls (heard.Message message) = message_line heading calls message
heard_text heading calls (heard.Fault fault) = refused_line heading fault

abbrev pub calls_after : Heading → UnansweredCalls → Heard → UnansweredCalls
calls_after heading calls heard.Nothing = calls
calls_after heading calls (heard.Message message) = after_message heading calls message
calls_after heading calls (heard.Fault fault) = calls

abbrev pub is_fault : Heard → Bool
is_fault heard.Nothing = false
is_fault (heard.Message message) = false
is_fault (heard.Fault fault) = true
