use Rattle.xns_connection.specs.Calls.{raw_of_call}
use Rattle.xns_connection.specs.Deeds.{made}
use Rattle.host_world.proofs.Paired.{pair_calls, pair_unchanged, one_waits, waits_on}
use Rattle.host_world.proofs.pair.Pair.call.Goals as goal

pub returns-clause-steps : goal.returns-clause-steps
returns-clause-steps c =
    pair_calls c.a_step_keeps_its_promises.ensures c.args.self.now c.at.result.now c.call.new.self c.args.side c.args.now (raw_of_call c.args.call.now) c.call.result c.at.ensures.value c.call.ensures.step

pub returns-clause-waits : goal.returns-clause-waits
returns-clause-waits c =
    one_waits c.args.self.now c.at.result.now c.call.new.self c.args.side c.args.now c.at.ensures.value
    (waits_on c.args.now (made (raw_of_call c.args.call.now)) c.at.result.now c.call.new.self c.call.result (λ steps. steps) c.call.ensures.step c.call.ensures.unchanged)

pub returns-clause-unchanged : goal.returns-clause-unchanged
returns-clause-unchanged c = pair_unchanged c.args.self.now c.at.result.now c.call.new.self c.args.side c.call.result c.at.ensures.value c.call.ensures.unchanged
