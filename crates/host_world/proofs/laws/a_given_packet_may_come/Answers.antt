use Rattle.host_world.proofs.Kept.{given_may_come}
use Rattle.host_world.proofs.laws.a_given_packet_may_come.Goals as goal

pub returns : goal.returns
returns c = let laws = c.meeting_laws_are_given.ensures in given_may_come laws.ends laws.order laws.stories
