use Rattle.xns_spp.proofs.Peers.{system_named, item_named, own_named, its_own}
use Rattle.xns_spp.proofs.laws.packets_of_the_peer_are_ours.Goals as goal

pub returns : goal.returns
returns c = record { system = system_named; item = item_named; own = own_named; ours = its_own }
