use Rattle.courier_messages.proofs.Talks.{messages_begin, well_begins}
use Rattle.courier_messages.proofs.laws.a_conversation_only_grows.Goals as goal

pub returns : goal.returns
returns c = record { messages = messages_begin; fault = well_begins }
