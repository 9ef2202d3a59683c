use Rattle.xns_lines.proofs.Joined.{are_plain, joined_is}
use Rattle.xns_lines.proofs.laws.lines_are_the_input.Goals as goal

pub returns : goal.returns
returns c = record { whole = joined_is; closed = λ input. (are_plain input).0; last = λ input. (are_plain input).1 }
