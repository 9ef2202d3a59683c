use Rattle.xns_spp.proofs.Own.{for_responder}
use Rattle.xns_spp.proofs.laws.a_packet_for_a_responder_is_its_own.Goals as goal

pub returns : goal.returns
returns c = for_responder
