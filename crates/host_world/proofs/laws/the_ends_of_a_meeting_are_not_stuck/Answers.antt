use Rattle.host_world.proofs.Onward.{can_finish}
use Rattle.host_world.proofs.laws.the_ends_of_a_meeting_are_not_stuck.Goals as goal

pub returns : goal.returns
returns c = can_finish c.meeting_laws_are_given.ensures
