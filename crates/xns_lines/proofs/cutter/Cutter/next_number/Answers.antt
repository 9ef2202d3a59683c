use Rattle.std.proofs.Common.{rules}
use Rattle.xns_lines.proofs.cutter.Cutter.next_number.Goals as goal

pub returns-clause-ok : goal.returns-clause-ok
returns-clause-ok c = search rules
