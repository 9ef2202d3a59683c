use Rattle.courier_notation.proofs.ProgramComplete.{program_read}
use Rattle.courier_notation.proofs.ProgramSound.{program_spelled}
use Rattle.courier_notation.proofs.laws.program_is_read_as_it_is_spelled.Goals as goal

pub returns : goal.returns
returns c = λ ts p. (program_spelled ts p, program_read p ts)
