use Rattle.xns_host.proofs.Follows.{a_quoted_one_is_unserved, its_packets_are_heard, no_network_decides}
use Rattle.xns_host.proofs.laws.packets_come_to_their_connections.Goals as goal

pub returns : goal.returns
returns c = record { sequenced = its_packets_are_heard; error = a_quoted_one_is_unserved; network = no_network_decides }
