use Rattle.xns_calls.proofs.Delays.{few_kept, takes_effect}
use Rattle.xns_calls.proofs.laws.acknowledgements_wait.Goals as goal

pub returns : goal.returns
returns c = record { effect = takes_effect; few = few_kept }
