use Rattle.std.proofs.Common.{rules}
use Rattle.courier_types.specs.Reading.{front_listed}
use Rattle.courier_types.proofs.reading.read_listed.Goals as goal

pub returns-in-Some : goal.returns-in-Some
unfolding front_listed
returns-in-Some g c = search rules
