use Rattle.std.proofs.Common.{rules}
use Rattle.courier_types.specs.Reading.{front_long}
use Rattle.courier_types.proofs.reading.read_long.Goals as goal

pub returns : goal.returns
unfolding front_long
returns g c = search rules
