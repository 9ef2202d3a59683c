use Rattle.xns_host.proofs.Follows.{a_starved_one_rests, no_packet_left, nothing_to_tell}
use Rattle.xns_host.proofs.laws.nothing_is_left.Goals as goal

pub returns : goal.returns
returns c = record { event = nothing_to_tell; packet = no_packet_left; rests = a_starved_one_rests }
