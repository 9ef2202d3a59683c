-- Why a connection makes no call, and gives no answer.
use Rattle.std.specs.Prelude.{◌≡◌, ℕ, List, Option, Some, None, Result, Ok, Err}
use Rattle.std.specs.Option.{option_map}
use Rattle.courier_messages.specs.RawCalls.{RawCall}
use Rattle.courier_sessions.specs.Answering as answering
use Rattle.courier_sessions.specs.Talk as talk
use Rattle.courier_sessions.specs.declared.answer.Answer.{Answer}
use Rattle.courier_sessions.specs.declared.answer_refusal.AnswerRefusal.{AnswerRefusal}
use Rattle.courier_sessions.specs.declared.answer_refusal.AnswerRefusal.TheVariants as unanswered
use Rattle.courier_sessions.specs.declared.call_refusal.CallRefusal.{CallRefusal}
use Rattle.courier_sessions.specs.declared.call_refusal.CallRefusal.TheVariants as uncalled
use Rattle.xns_connection.specs.declared.refusal.Refusal.{Refusal}
use Rattle.xns_connection.specs.declared.refusal.Refusal.TheVariants.{Busy, PeerCalls, NoCall, Closing, TooLong, NoMemory}
use Rattle.xns_connection.specs.declared.side.Side.{Side}
use Rattle.xns_connection.specs.declared.side.Side.TheVariants as sides

-- what the program is told where a session refuses a call
abbrev pub refused_call : CallRefusal → Refusal
refused_call uncalled.Stopped = Closing
refused_call uncalled.Busy = Busy
refused_call uncalled.TooLong = TooLong
refused_call uncalled.NoMemory = NoMemory

-- why a side makes no call
abbrev pub side_call_fault : Side → RawCall → Option Refusal
side_call_fault (sides.Calls t) c = option_map refused_call (talk.call_refusal t c)
side_call_fault (sides.Answers a) c = Some PeerCalls

-- what the program is told where a session refuses an answer
abbrev pub refused_answer : AnswerRefusal → Refusal
refused_answer unanswered.NoCall = NoCall
refused_answer unanswered.TooLong = TooLong
refused_answer unanswered.NoMemory = NoMemory

-- why a side gives no answer
abbrev pub side_answer_fault : Side → Answer → List ℕ → Option Refusal
side_answer_fault (sides.Calls t) answer words = Some NoCall
side_answer_fault (sides.Answers a) answer words = option_map refused_answer (answering.answer_refusal a.asked answer words)

-- what is answered where this is the reason against it: memory is refused only where there is none
abbrev pub Answers : Option Refusal → Result (Unit {0}) Refusal → Type 0
Answers fault (Ok u) = fault ≡ None
Answers fault (Err NoMemory) = fault ≡ None
Answers fault (Err Busy) = fault ≡ Some Busy
Answers fault (Err PeerCalls) = fault ≡ Some PeerCalls
Answers fault (Err NoCall) = fault ≡ Some NoCall
Answers fault (Err Closing) = fault ≡ Some Closing
Answers fault (Err TooLong) = fault ≡ Some TooLong
