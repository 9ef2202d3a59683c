use Rattle.courier_sessions.proofs.Agree.{server_goes, caller_goes, calls_agree, answers_agree}
use Rattle.courier_sessions.proofs.laws.sessions_agree.Goals as goal

pub returns : goal.returns
returns c =
    let asks = c.calls_are_heard.ensures in
    let hear = c.a_front_is_heard.ensures in
    record {
      server = server_goes asks c.a_server_hears_one_item_more.ensures;
      caller = caller_goes asks hear c.one_item_more.ensures;
      calls = calls_agree asks;
      answers = answers_agree hear;
    }
