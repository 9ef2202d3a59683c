use Rattle.xns_host.proofs.Again.{comes_again}
use Rattle.xns_host.proofs.laws.an_identifier_comes_again_behind_all_others.Goals as goal

pub returns : goal.returns
returns c = λ start now before since later once again id order given same least most other.
    comes_again before since later once again start id order given same least most other
