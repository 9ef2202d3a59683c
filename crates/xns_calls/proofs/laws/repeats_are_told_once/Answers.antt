use Rattle.xns_calls.proofs.Repeated.{told_once}
use Rattle.xns_calls.proofs.laws.repeats_are_told_once.Goals as goal

pub returns : goal.returns
returns c = told_once
