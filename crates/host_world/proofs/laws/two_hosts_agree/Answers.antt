use Rattle.host_world.proofs.Agreed.{called_on, caller_on}
use Rattle.host_world.proofs.laws.two_hosts_agree.Goals as goal

pub returns : goal.returns
returns c = record {
  agree = λ h k here there a b programs m s. c.two_connections_over_a_network_agree.ensures a b programs m s.station s.peer s.meets;
  calls = caller_on;
  called = called_on;
}
