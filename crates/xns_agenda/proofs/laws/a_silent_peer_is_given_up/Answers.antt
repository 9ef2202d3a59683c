use Rattle.xns_agenda.proofs.Silent.{patient}
use Rattle.xns_agenda.proofs.laws.a_silent_peer_is_given_up.Goals as goal

pub returns : goal.returns
returns c = λ w v n most silence. let p = patient w most silence in (p.misses, p.most)
