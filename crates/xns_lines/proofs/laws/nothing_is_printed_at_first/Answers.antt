use Rattle.xns_lines.proofs.AtFirst.{at_first}
use Rattle.xns_lines.proofs.laws.nothing_is_printed_at_first.Goals as goal

pub returns : goal.returns
returns c = at_first
