use Rattle.courier_messages.proofs.Joins.{joined_push}
use Rattle.std.proofs.Common.{arith}
use Rattle.courier_messages.proofs.pieces.Kept.push.Goals as goal

pub returns-in_ok-push-in-Several-clause-ok : goal.returns-in_ok-push-in-Several-clause-ok
returns-in_ok-push-in-Several-clause-ok c = grind (arith, joined_push)
