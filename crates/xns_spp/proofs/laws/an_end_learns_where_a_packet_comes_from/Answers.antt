use Rattle.xns_spp.proofs.Asking.{stays_or_learns}
use Rattle.xns_spp.proofs.laws.an_end_learns_where_a_packet_comes_from.Goals as goal

pub returns : goal.returns
returns c = stays_or_learns
