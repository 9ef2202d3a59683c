use Rattle.xns_calls.proofs.ItemEvents.{item_event}
use Rattle.xns_calls.proofs.laws.an_item_is_an_event.Goals as goal

pub returns : goal.returns
returns c = item_event
