use Rattle.host_world.proofs.Followed.{abandoned_followed, done_followed, given_followed, heard_followed}
use Rattle.host_world.proofs.laws.a_host_goes_on_with_its_meetings.Goals as goal

pub returns : goal.returns
returns c =
    let law = c.a_step_keeps_its_promises.ensures in
    record { done = done_followed law; abandons = abandoned_followed; gives = given_followed law; hears = heard_followed law c.a_connection_keeps_its_end.ensures }
