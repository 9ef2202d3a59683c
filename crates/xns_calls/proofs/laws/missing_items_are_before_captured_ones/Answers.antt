use Rattle.xns_calls.proofs.Beyond.{none_before, not_beyond}
use Rattle.xns_calls.proofs.laws.missing_items_are_before_captured_ones.Goals as goal

pub returns : goal.returns
returns c = record { next = not_beyond; none = none_before }
