use Rattle.xns_calls.proofs.FewKept.{few_kept}
use Rattle.xns_calls.proofs.laws.few_items_are_kept.Goals as goal

pub returns : goal.returns
returns c = few_kept c.flows_are_told_apart.ensures
