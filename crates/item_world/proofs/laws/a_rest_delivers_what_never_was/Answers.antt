use Rattle.item_world.proofs.Kept.{deliveries}
use Rattle.item_world.proofs.laws.a_rest_delivers_what_never_was.Goals as goal
use Rattle.item_world.specs.Events.{undelivered}

pub returns : goal.returns
returns c w = deliveries w (undelivered 0 w.bag)
