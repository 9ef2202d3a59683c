use Rattle.xns_calls.proofs.Keys.{one_key}
use Rattle.xns_calls.proofs.laws.one_key_serves_both_directions.Goals as goal

pub returns : goal.returns
returns c = one_key c.flows_are_told_apart.ensures c.places_are_ordered_by_numbers.ensures
