use Rattle.std.proofs.Common.{rules}
use Rattle.xns_dump.specs.Layers.Sequenced.{item_of}
use Rattle.xns_dump.proofs.layers.sequenced.numbered_item.Goals as goal

pub returns : goal.returns
unfolding item_of
returns c = search rules
