use Rattle.host_world.proofs.Hosts.{has_history}
use Rattle.host_world.proofs.laws.each_number_of_a_host_has_a_history.Goals as goal

pub returns : goal.returns
returns c = has_history c.a_connection_keeps_its_end.ensures
