-- The side of a Courier conversation that is called, over words (XSIS 038112, Courier).
use Rattle.std.specs.Prelude.{◌≡◌, ℕ, List, [], ◌∷◌, ◌++◌, length, Bool, true, false, ◌||◌, ◌==◌, nat_lt, if◌then◌else◌, Option, Some, None}
use Rattle.std.specs.Prelude.{Result, Ok}
use Rattle.std.specs.Option.{is_some}
use Rattle.xns_spp.specs.declared.item.Item.{Item}
use Rattle.courier_messages.specs.declared.fault.SessionFault.{SessionFault}
use Rattle.courier_messages.specs.declared.message.Message.{Message}
use Rattle.courier_messages.specs.declared.message.Message.TheVariants.{Call, Reject, Return, Abort}
use Rattle.courier_messages.specs.Conversation.{Phase, opening}
use Rattle.courier_messages.specs.Cutting.{cut, versions_item}
pub use Rattle.courier_messages.specs.Head.{transaction_in}
use Rattle.courier_messages.specs.Message.{most_words, message_words}
use Rattle.courier_messages.specs.Phases.{run, said, ◌then◌}
use Rattle.courier_messages.specs.Called.{called_ending}
use Rattle.courier_messages.specs.Rejects.{no_such_program, no_such_version, is_outside, version_words}
use Rattle.courier_messages.specs.Text.{signs}
use Rattle.courier_sessions.specs.Feeding.{fed_unless}
use Rattle.courier_sessions.specs.declared.answer.Answer.{Answer}
use Rattle.courier_sessions.specs.declared.answer.Answer.TheVariants as answers
use Rattle.courier_sessions.specs.declared.answer_refusal.AnswerRefusal.{AnswerRefusal}
use Rattle.courier_sessions.specs.declared.answer_refusal.AnswerRefusal.TheVariants as refusals
use Rattle.courier_sessions.specs.declared.feed_refusal.FeedRefusal.{FeedRefusal}
use Rattle.courier_sessions.specs.declared.program.Program.{Program}
use Rattle.courier_sessions.specs.declared.unlisted.Unlisted.{Unlisted}
use Rattle.courier_sessions.specs.declared.unlisted.Unlisted.TheVariants as unlisted

pub record Answering : Type 0 where
  -- the programs that can be called
  pub programs : List Program
  -- what is kept of the peer's text
  pub phase : Phase
  -- what is to go out
  pub out : List Item
  pub failed : Bool
  -- the call that came in and waits to be handed
  pub call : Option Message
  -- the number of the call that was handed and waits for its answer
  pub asked : Option ℕ

-- a side that is new: its versions are out
abbrev pub new_answering : List Program → Answering
new_answering programs = record {
  programs = programs;
  phase = opening [];
  out = versions_item ∷ [];
  failed = false;
  call = None;
  asked = None;
}

-- an item that comes

abbrev pub has_items : List Item → Bool
has_items [] = false
has_items (x ∷ xs) = true

-- a call waits to be handed, or for its answer, or what is out was not fetched
abbrev pub is_busy : Answering → Bool
is_busy a = is_some a.call || is_some a.asked || has_items a.out

-- the side with the messages that an item ended, of which there is at most one
abbrev pub with_call : Answering → List Message → Answering
with_call a [] = a
with_call a (m ∷ ms) = record a { call = Some m }

-- the side with an item's messages ms, behind which the conversation is at q, or the first fault; a message that is no
-- call is a fault
abbrev pub after_messages : Answering → List Message → Result Phase SessionFault → Result Answering SessionFault
after_messages a ms q = called_ending ms q then λ p. Ok (with_call (record a { phase = p }) ms)

-- the side with one more item of the peer's, or the first fault
abbrev pub after_item : Answering → Item → Result Answering SessionFault
after_item a x = after_messages a (said a.phase (signs x)) (run a.phase (signs x))

-- the side once an item is taken in, or the first reason why the item is refused, in this order
abbrev pub fed : Answering → Item → Result Answering FeedRefusal
fed a x = fed_unless a.failed (is_busy a) x (after_item a x)

-- the side is stopped, and otherwise stays as it was
abbrev pub IsStopped : Answering → Answering → Type 0
IsStopped old new = new ≡ record old { failed = true }

-- a call that is handed

abbrev pub is_a_call : Message → Bool
is_a_call (Call transaction program version procedure words) = true
is_a_call (Reject transaction reason words) = false
is_a_call (Return transaction words) = false
is_a_call (Abort transaction error words) = false

abbrev pub after_call : Answering → Message → Answering
after_call a m = record a { call = None; asked = Some (transaction_in m) }

-- a call that is not handed

-- the first entry of a program
abbrev pub entry_for : List Program → ℕ → Option Program
entry_for [] program = None
entry_for (e ∷ es) program = if e.number == program then Some e else entry_for es program

abbrev pub version_refusal : Option Program → ℕ → Option Unlisted
version_refusal None version = Some unlisted.Program
version_refusal (Some e) version = if is_outside e.lowest e.highest version then Some (unlisted.Version e.lowest e.highest) else None

-- why a call is not handed, if it isn't; where no program is listed, each call is handed
abbrev pub why_unlisted : List Program → Message → Option Unlisted
why_unlisted [] m = None
why_unlisted (e ∷ es) (Call transaction program version procedure words) = version_refusal (entry_for (e ∷ es) program) version
why_unlisted (e ∷ es) (Reject transaction reason words) = None
why_unlisted (e ∷ es) (Return transaction words) = None
why_unlisted (e ∷ es) (Abort transaction error words) = None

-- the reject that answers a call that is not handed
abbrev pub reject_message : ℕ → Unlisted → Message
reject_message transaction unlisted.Program = Reject transaction no_such_program []
reject_message transaction (unlisted.Version low high) = Reject transaction no_such_version (version_words low high)

abbrev pub after_reject : Answering → Message → Unlisted → Answering
after_reject a m u = record a { out = a.out ++ cut (reject_message (transaction_in m) u); call = None }

-- an answer that is given

-- the answer of these words to the call of this transaction
abbrev pub answer_message : Answer → ℕ → List ℕ → Message
answer_message (answers.Reject reason) transaction words = Reject transaction reason words
answer_message answers.Return transaction words = Return transaction words
answer_message (answers.Abort error) transaction words = Abort transaction error words

-- the transaction of a call that waits to be handed, and that is listed
abbrev pub unread : List Program → Option Message → Option ℕ
unread programs None = None
unread programs (Some m) = if is_some (why_unlisted programs m) then None else Some (transaction_in m)

abbrev pub is_reject : Answer → Bool
is_reject (answers.Reject reason) = true
is_reject answers.Return = false
is_reject (answers.Abort error) = false

-- the transaction of the call that an answer is for: the call that was handed, or, for a reject, a listed call that is
-- not handed yet
abbrev pub answers_to : Answering → Answer → Option ℕ
answers_to a answer = if is_some a.asked then a.asked else if is_reject answer then unread a.programs a.call else None

abbrev pub length_refusal : Message → Option AnswerRefusal
length_refusal m = if nat_lt most_words (length (message_words m)) then Some refusals.TooLong else None

-- why an answer may not be given to the call of this transaction, or that there is no such call
abbrev pub answer_refusal : Option ℕ → Answer → List ℕ → Option AnswerRefusal
answer_refusal None answer words = Some refusals.NoCall
answer_refusal (Some transaction) answer words = length_refusal (answer_message answer transaction words)

-- the refusal that tells of want of memory
abbrev pub is_want_of_memory : AnswerRefusal → Bool
is_want_of_memory refusals.NoMemory = true
is_want_of_memory _ = false

abbrev pub with_answer_out : Answering → Message → Answering
with_answer_out a m = record a { out = a.out ++ cut m; call = None; asked = None }
