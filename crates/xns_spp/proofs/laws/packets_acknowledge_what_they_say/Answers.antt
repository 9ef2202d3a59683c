use Rattle.xns_spp.proofs.Growing.{receive_acknowledges}
use Rattle.xns_spp.proofs.laws.packets_acknowledge_what_they_say.Goals as goal

pub returns : goal.returns
returns c = receive_acknowledges
