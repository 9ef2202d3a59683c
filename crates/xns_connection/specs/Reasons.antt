-- Why a conversation makes no call, and gives no answer.
use Rattle.std.specs.Prelude.{ℕ, List, ◌||◌, if◌then◌else◌, Option, Some}
use Rattle.courier_messages.specs.RawCalls.{RawCall}
use Rattle.courier_sessions.specs.declared.answer.Answer.{Answer}
use Rattle.xns_connection.specs.Closing.{drains}
use Rattle.xns_connection.specs.Refusing.{side_call_fault, side_answer_fault}
use Rattle.xns_connection.specs.declared.conversation.Conversation.{Conversation}
use Rattle.xns_connection.specs.declared.refusal.Refusal.{Refusal}
use Rattle.xns_connection.specs.declared.refusal.Refusal.TheVariants.{Closing}

abbrev pub call_fault_of : Conversation → RawCall → Option Refusal
call_fault_of t c = if drains t.side t.closing || t.closing.wanted then Some Closing else side_call_fault t.side c

abbrev pub answer_fault_of : Conversation → Answer → List ℕ → Option Refusal
answer_fault_of t answer words = if drains t.side t.closing then Some Closing else side_answer_fault t.side answer words
