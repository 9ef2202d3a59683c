use Rattle.host_world.proofs.Dialogues.{in_order, reason, last, newly, gone}
use Rattle.host_world.proofs.laws.a_number_keeps_its_order.Goals as goal

pub returns : goal.returns
returns c = record { order = in_order; reason = reason; last = last; opening = newly; gone = gone }
