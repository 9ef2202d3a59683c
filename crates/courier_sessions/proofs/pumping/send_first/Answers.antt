use Rattle.std.proofs.Common.{rules}
use Rattle.courier_sessions.proofs.pumping.send_first.Goals as goal

pub returns-in-Some-take_out-clause-sent : goal.returns-in-Some-take_out-clause-sent
returns-in-Some-take_out-clause-sent g c = search rules
