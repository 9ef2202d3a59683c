use Rattle.xns_connection.proofs.Peers.{agree}
use Rattle.xns_connection.proofs.laws.connections_agree.Goals as goal

pub returns : goal.returns
returns c = agree c.one_item_more.ensures c.a_conversation_only_grows.ensures c.sessions_agree.ensures.calls c.sessions_agree.ensures.answers
