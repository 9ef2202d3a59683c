use Rattle.item_world.proofs.Channels.{in_order}
use Rattle.item_world.proofs.laws.moves_keep_the_order.Goals as goal

pub returns : goal.returns
returns c = in_order
