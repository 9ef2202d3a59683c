use Rattle.std.proofs.Common.{rules}
use Rattle.xns_dump.specs.Layers.Courier.{courier_text}
use Rattle.xns_dump.proofs.layers.courier.append_courier.Goals as goal

pub returns-in-Err-Fault : goal.returns-in-Err-Fault
unfolding courier_text
returns-in-Err-Fault c = search rules
