use Rattle.xns_connection.proofs.Peers.{called, served}
use Rattle.xns_connection.proofs.laws.a_connection_is_its_conversation.Goals as goal

pub returns : goal.returns
returns c = let grows = c.a_conversation_only_grows.ensures in record { calls = called grows; answers = served grows }
