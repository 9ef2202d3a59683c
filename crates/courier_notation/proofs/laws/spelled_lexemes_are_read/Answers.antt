use Rattle.courier_notation.proofs.LexemesRead.{spelled_read}
use Rattle.courier_notation.proofs.laws.spelled_lexemes_are_read.Goals as goal

pub returns : goal.returns
returns c = spelled_read
