use Rattle.xns_spp.proofs.Learning.{open_stays, responder_stays}
use Rattle.xns_spp.proofs.laws.open_ends_learn_nothing.Goals as goal

pub returns : goal.returns
returns c = record { known = open_stays; responder = responder_stays }
