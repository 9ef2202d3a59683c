use Rattle.courier_messages.proofs.Signs.{conversation_is, ending_is}
use Rattle.courier_messages.proofs.laws.conversation_is_read_sign_by_sign.Goals as goal

pub returns : goal.returns
returns c = record { messages = conversation_is; ending = ending_is }
