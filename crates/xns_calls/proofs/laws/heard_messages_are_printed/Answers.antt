use Rattle.xns_calls.proofs.Messages.{messages_are, text_is}
use Rattle.xns_calls.proofs.laws.heard_messages_are_printed.Goals as goal

pub returns : goal.returns
returns c = record { text = text_is; messages = messages_are }
