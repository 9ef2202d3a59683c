use Rattle.std.proofs.Common.{rules}
use Rattle.xns_idp.proofs.places.read_word.Goals as goal

pub returns : goal.returns
returns c = search rules
