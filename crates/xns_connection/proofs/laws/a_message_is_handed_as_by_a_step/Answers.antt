use Rattle.xns_connection.proofs.Handed.{handed_as_by_a_step}
use Rattle.xns_connection.proofs.laws.a_message_is_handed_as_by_a_step.Goals as goal

pub returns : goal.returns
returns c =
    let caller = c.a_session_is_its_conversation.ensures in
    let server = c.a_server_session_is_its_conversation.ensures in
    handed_as_by_a_step caller.hand server.hand c.the_next_item_is_handed_up.ensures c.a_step_keeps_its_promises.ensures
