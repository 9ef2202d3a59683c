use Rattle.xns_dump.proofs.Refused.{alone, both, longer, loud, said}
use Rattle.xns_dump.proofs.laws.joined_texts_say_refused.Goals as goal

pub returns : goal.returns
returns c = record { quiet = both; loud_behind = loud; loud_before = longer; silent = alone; said = said }
