use Rattle.xns_connection.proofs.Peers.{caller_goes, server_goes}
use Rattle.xns_connection.proofs.laws.peers_refuse_nothing.Goals as goal

pub returns : goal.returns
returns c =
    let more = c.one_item_more.ensures in
    let grows = c.a_conversation_only_grows.ensures in
    let sendable = c.message_items_can_be_sent.ensures in
    record { calls = caller_goes more grows sendable c.sessions_agree.ensures.caller; answers = server_goes more grows sendable c.sessions_agree.ensures.server }
