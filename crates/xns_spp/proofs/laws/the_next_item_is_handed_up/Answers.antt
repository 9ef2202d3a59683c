use Rattle.xns_spp.proofs.StepsButReceive.{handed_one, one_more, none_handed, waits_for, fewer_wait}
use Rattle.xns_spp.proofs.laws.the_next_item_is_handed_up.Goals as goal

pub returns : goal.returns
returns c = record { some = handed_one; more = one_more; none = none_handed; waits = waits_for; fewer = fewer_wait }
