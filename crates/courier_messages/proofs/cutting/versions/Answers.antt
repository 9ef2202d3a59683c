use Rattle.std.proofs.Common.{◌∷◌, [], arith}
use Rattle.courier_messages.proofs.Cuts.{last_item}
use Rattle.courier_messages.proofs.cutting.versions.Goals as goal

pub returns : goal.returns
returns c = rw (← last_item (3 ∷ 3 ∷ []) (omega arith)) c.cut.ensures.items
