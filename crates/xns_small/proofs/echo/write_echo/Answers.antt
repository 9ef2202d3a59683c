use Rattle.std.proofs.Common.{rules}
use Rattle.xns_small.proofs.echo.write_echo.Goals as goal

pub returns-clause-ok : goal.returns-clause-ok
returns-clause-ok c = search rules
