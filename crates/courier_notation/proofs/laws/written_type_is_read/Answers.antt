use Rattle.courier_notation.proofs.Complete.{type_read}
use Rattle.courier_notation.proofs.laws.written_type_is_read.Goals as goal

pub returns : goal.returns
returns c = λ depth type rest good apart. type_read depth type rest good apart
