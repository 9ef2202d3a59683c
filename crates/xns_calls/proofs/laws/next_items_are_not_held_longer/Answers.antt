use Rattle.xns_calls.proofs.Late.{not_held_longer}
use Rattle.xns_calls.proofs.laws.next_items_are_not_held_longer.Goals as goal

pub returns : goal.returns
returns c = not_held_longer
