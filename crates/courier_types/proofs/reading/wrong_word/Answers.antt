use Rattle.std.proofs.Common.{rules}
use Rattle.courier_types.proofs.reading.wrong_word.Goals as goal

pub returns : goal.returns
returns g c = search rules
