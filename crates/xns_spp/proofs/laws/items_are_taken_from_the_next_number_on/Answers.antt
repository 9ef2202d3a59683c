use Rattle.xns_spp.proofs.Growing.{receive_takes, receive_early}
use Rattle.xns_spp.proofs.laws.items_are_taken_from_the_next_number_on.Goals as goal

pub returns : goal.returns
returns c = record { taken = receive_takes; early = receive_early }
