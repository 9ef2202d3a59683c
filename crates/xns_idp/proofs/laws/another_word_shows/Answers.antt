use Rattle.xns_idp.proofs.Sums.{one_word_tells}
use Rattle.xns_idp.proofs.laws.another_word_shows.Goals as goal

pub returns : goal.returns
returns c = one_word_tells
