use Rattle.xns_calls.proofs.Known.{repeated}
use Rattle.xns_calls.proofs.laws.repeats_say_nothing.Goals as goal

pub returns : goal.returns
returns c = repeated
