use Rattle.xns_connection.proofs.Lives.{programs_agree}
use Rattle.xns_connection.proofs.laws.two_programs_agree.Goals as goal

pub returns : goal.returns
returns c = programs_agree c.one_item_more.ensures c.a_conversation_only_grows.ensures c.sessions_agree.ensures.calls c.sessions_agree.ensures.answers
