use Rattle.xns_calls.proofs.InOrder.{in_turn}
use Rattle.xns_calls.proofs.laws.kept_items_are_read_in_turn.Goals as goal

pub returns : goal.returns
returns c = in_turn
