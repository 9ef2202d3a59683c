use Rattle.courier_sessions.proofs.Done.{start, calls, gives, feeds, hands, refuses}
use Rattle.courier_sessions.proofs.laws.a_session_is_its_conversation.Goals as goal

pub returns : goal.returns
returns c = record {
  start = start;
  call = calls c.more_calls_go_out.ensures;
  give = gives;
  feed = feeds c.one_item_more.ensures;
  hand = hands;
  fault = refuses c.one_item_more.ensures;
}
