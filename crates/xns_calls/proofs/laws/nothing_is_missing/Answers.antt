use Rattle.xns_calls.proofs.Gaps.{nothing_missing}
use Rattle.xns_calls.proofs.laws.nothing_is_missing.Goals as goal

pub returns : goal.returns
returns c = nothing_missing
