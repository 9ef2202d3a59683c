use Rattle.std.proofs.Common.{rules}
use Rattle.courier_types.proofs.reading.read_boolean.Goals as goal

pub returns-in-Some-eq1 : goal.returns-in-Some-eq1
returns-in-Some-eq1 g c = search rules
