use Rattle.courier_programs.proofs.Names.{type_is_declared}
use Rattle.courier_programs.proofs.laws.referred_type_is_declared.Goals as goal

pub returns : goal.returns
returns c = type_is_declared
