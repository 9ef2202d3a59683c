-- What a program asks of a connection.
use Rattle.std.specs.Prelude.{Option, None}
use Rattle.xns_connection.specs.Calls.{raw_of_call}
use Rattle.xns_connection.specs.Deeds.{Deed, asked, gave, made}
use Rattle.xns_connection.specs.Reasons.{answer_fault_of, call_fault_of}
use Rattle.xns_connection.specs.declared.conversation.Conversation.{Conversation}
use Rattle.xns_connection.specs.declared.refusal.Refusal.{Refusal}
use Rattle.xns_host.specs.declared.request.Request.{Request}
use Rattle.xns_host.specs.declared.request.Request.TheVariants.{Call, Answer, Close}

abbrev pub deed_of : Request → Deed
deed_of (Call call) = made (raw_of_call call.now)
deed_of (Answer kind words) = gave kind words.now
deed_of Close = asked

-- why the connection does not do it; to close is never refused
abbrev pub request_fault_of : Conversation → Request → Option Refusal
request_fault_of t (Call call) = call_fault_of t (raw_of_call call.now)
request_fault_of t (Answer kind words) = answer_fault_of t kind words.now
request_fault_of t Close = None
