use Rattle.xns_dump.proofs.Places.{two_numbers}
use Rattle.xns_dump.proofs.laws.places_are_ordered_by_numbers.Goals as goal

pub returns : goal.returns
returns c = two_numbers
