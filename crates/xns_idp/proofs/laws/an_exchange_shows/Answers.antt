use Rattle.xns_idp.proofs.Sums.{exchange_tells}
use Rattle.xns_idp.proofs.laws.an_exchange_shows.Goals as goal

pub returns : goal.returns
returns c = exchange_tells
