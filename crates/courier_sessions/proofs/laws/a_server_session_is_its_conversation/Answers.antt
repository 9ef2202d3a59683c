use Rattle.courier_sessions.proofs.Answered.{start, feeds, hands, rejects, answers_one, refuses, gives, stops}
use Rattle.courier_sessions.proofs.laws.a_server_session_is_its_conversation.Goals as goal

pub returns : goal.returns
returns c = record {
  start = start;
  feed = feeds c.one_item_more.ensures c.a_server_hears_one_item_more.ensures;
  hand = hands;
  reject = rejects;
  answer = answers_one;
  refuse = refuses;
  give = gives;
  fault = stops c.a_server_hears_one_item_more.ensures;
}
