use Rattle.std.proofs.Common.{rules}
use Rattle.xns_command.proofs.commands.perform.Goals as goal

pub returns-in-Dump : goal.returns-in-Dump
returns-in-Dump g c = rw c.in-Dump.is (search rules)

pub returns-in-Calls : goal.returns-in-Calls
returns-in-Calls g c = rw c.in-Calls.is (search rules)

pub returns-in-Sim : goal.returns-in-Sim
returns-in-Sim g c = rw c.in-Sim.is (search rules)
