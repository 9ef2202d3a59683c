use Rattle.std.proofs.Common.{rules}
use Rattle.courier_types.proofs.reading.read_integer.Goals as goal

pub returns : goal.returns
returns g c = search rules
