use Rattle.xns_connection.proofs.Keeping.{keeps}
use Rattle.xns_connection.proofs.laws.a_step_keeps_its_promises.Goals as goal

pub returns : goal.returns
returns c =
    let caller = c.a_session_is_its_conversation.ensures in
    let server = c.a_server_session_is_its_conversation.ensures in
    keeps
    (record {
      next = c.the_next_item_is_handed_up.ensures;
      caller_gives = caller.give;
      caller_feeds = caller.feed;
      server_gives = server.give;
      server_feeds = server.feed;
      server_rejects = server.reject;
    })
    (record {
      makes = caller.call;
      hands_up = caller.hand;
      hands_call = server.hand;
      gives = server.answer;
      grows = c.an_end_only_grows.ensures;
      stays = c.other_steps_accept_and_hand_up_nothing.ensures;
    })
    c.items_are_accepted_or_change_nothing.ensures
