use Rattle.xns_calls.proofs.WholeEnds.{whole_end_said}
use Rattle.xns_calls.proofs.laws.whole_flows_say_their_conversation.Goals as goal

pub returns : goal.returns
returns c =
    let signs = c.conversation_is_read_sign_by_sign.ensures in
    whole_end_said c.signs_run_on.ensures c.one_item_more.ensures signs.messages signs.ending
