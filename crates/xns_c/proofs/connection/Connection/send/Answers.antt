use Rattle.std.proofs.Common.{rules}
use Rattle.xns_c.proofs.connection.Connection.send.Goals as goal

pub returns-then-is_err : goal.returns-then-is_err
returns-then-is_err c = search rules

pub returns : goal.returns
returns c = search rules
