use Rattle.xns_calls.proofs.Endings.{input_told}
use Rattle.xns_calls.proofs.laws.inputs_tell_their_conversations.Goals as goal

pub returns : goal.returns
returns c =
    let signs = c.conversation_is_read_sign_by_sign.ensures in
    input_told c.flows_are_told_apart.ensures c.signs_run_on.ensures c.one_item_more.ensures signs.messages signs.ending
