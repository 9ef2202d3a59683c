use Rattle.xns_spp.proofs.Heard.{counts}
use Rattle.xns_spp.proofs.laws.a_packet_that_is_heard_counts.Goals as goal

pub returns : goal.returns
returns c = counts
