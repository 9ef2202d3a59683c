use Rattle.std.proofs.Common.{rules}
use Rattle.courier_types.proofs.shape.Shape.check.Goals as goal

pub returns : goal.returns
returns c = search rules
