use Rattle.std.proofs.Common.{ap}
use Rattle.xns_connection.specs.declared.connection.Connection.{Connection}
use Rattle.host_world.proofs.Paired.{pair_rests}
use Rattle.host_world.proofs.pair.Pair.take_why.Goals as goal

pub returns-clause-steps : goal.returns-clause-steps
returns-clause-steps c = pair_rests 0 c.args.self.now c.at.result.now c.take_why.new.self c.args.side c.at.ensures.value (ap (λ (k : Connection). k.conversation) c.take_why.ensures.rest)
