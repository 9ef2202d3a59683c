use Rattle.std.proofs.Common.{rules}
use Rattle.courier_sessions.proofs.server.WordServer.answers_to.Goals as goal

pub returns-in-None : goal.returns-in-None
returns-in-None c = search rules

pub returns-in-Some : goal.returns-in-Some
returns-in-Some c = search rules
