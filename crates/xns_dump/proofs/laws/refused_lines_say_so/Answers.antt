use Rattle.xns_dump.proofs.Refused.{line_is}
use Rattle.xns_dump.proofs.laws.refused_lines_say_so.Goals as goal

pub returns : goal.returns
returns c = line_is
