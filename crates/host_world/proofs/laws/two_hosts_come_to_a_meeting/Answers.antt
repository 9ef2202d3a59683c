use Rattle.host_world.proofs.Awaited.{awaits_on, called, fills, names, opened}
use Rattle.host_world.proofs.laws.two_hosts_come_to_a_meeting.Goals as goal

pub returns : goal.returns
returns c =
    let law = c.a_step_keeps_its_promises.ensures in
    record { connects = called; goes_on = awaits_on; names = names c.meeting_laws_are_given.ensures; opens = opened law; fills = fills law }
