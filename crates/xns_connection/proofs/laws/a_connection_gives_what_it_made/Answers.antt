use Rattle.xns_connection.proofs.Given.{gives_what_it_made}
use Rattle.xns_connection.proofs.laws.a_connection_gives_what_it_made.Goals as goal

pub returns : goal.returns
returns c =
    gives_what_it_made c.a_step_keeps_its_promises.ensures c.other_steps_accept_and_hand_up_nothing.ensures c.other_steps_hear_nothing.ensures
