use Rattle.host_world.proofs.Kept.{was_made}
use Rattle.host_world.proofs.laws.a_given_packet_may_come_while_it_lives.Goals as goal

pub returns : goal.returns
returns c = let laws = c.meeting_laws_are_given.ensures in was_made laws.ends laws.order laws.stories
