use Rattle.std.proofs.Common.{rules}
use Rattle.courier_sessions.proofs.server.WordServer.put_out.Goals as goal

pub returns-clause-answered : goal.returns-clause-answered
returns-clause-answered c = search rules
