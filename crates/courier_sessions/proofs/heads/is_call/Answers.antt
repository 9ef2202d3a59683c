use Rattle.std.proofs.Common.{rules}
use Rattle.courier_sessions.proofs.heads.is_call.Goals as goal

pub returns-in-Call : goal.returns-in-Call
returns-in-Call c = search rules
