use Rattle.host_world.proofs.Kept.{is_met}
use Rattle.host_world.proofs.laws.two_connections_over_a_network_agree.Goals as goal

pub returns : goal.returns
returns c = let laws = c.meeting_laws_are_given.ensures in is_met laws.ends laws.order laws.stories
