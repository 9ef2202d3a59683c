use Rattle.std.proofs.Common.{rules}
use Rattle.xns_lines.proofs.page.Page.flush.Goals as goal

pub returns-clause-text : goal.returns-clause-text
returns-clause-text c = search rules
