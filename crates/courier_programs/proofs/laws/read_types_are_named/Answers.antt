use Rattle.courier_programs.proofs.LexedNamed.{types_are_named}
use Rattle.courier_programs.proofs.laws.read_types_are_named.Goals as goal

pub returns : goal.returns
returns c = types_are_named
