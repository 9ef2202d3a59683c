use Rattle.courier_messages.proofs.More.{conversation_more, ending_more, item_one, unsaid}
use Rattle.courier_messages.proofs.laws.one_item_more.Goals as goal

pub returns : goal.returns
returns c = record { messages = conversation_more; kept = ending_more; single = item_one; silent = unsaid }
