use Rattle.xns_connection.specs.Step.{Hands}
use Rattle.xns_connection.specs.declared.connection.Connection.{Connection}
use Rattle.xns_host.proofs.Meant.{handing_steps}
use Rattle.host_world.proofs.Paired.{at_side, one_waits, pair_hands, pair_hands_none}
use Rattle.host_world.proofs.pair.Pair.take_message.Goals as goal

pub returns-clause-steps : goal.returns-clause-steps
returns-clause-steps c =
    pair_hands c.a_message_is_handed_as_by_a_step.ensures c.args.self.now c.at.result.now c.take_message.new.self c.args.side c.args.now c.take_message.result c.at.ensures.value
    c.take_message.ensures.message c.take_message.ensures.step

pub returns-clause-waits : goal.returns-clause-waits
returns-clause-waits c =
    one_waits c.args.self.now c.at.result.now c.take_message.new.self c.args.side c.args.now c.at.ensures.value
    (handing_steps c.a_message_is_handed_as_by_a_step.ensures c.args.now c.at.result.now c.take_message.new.self c.take_message.ensures.step)

pub returns-clause-none : goal.returns-clause-none
returns-clause-none c =
    pair_hands_none c.args.self.now c.at.result.now c.take_message.new.self c.args.side c.args.now c.take_message.result c.at.ensures.value c.take_message.ensures.message
    c.take_message.ensures.step

pub returns-clause-step : goal.returns-clause-step
returns-clause-step c = at_side (λ (x y : Connection). Hands c.args.now x y) c.args.self.now c.at.result.now c.take_message.new.self c.args.side c.at.ensures.value c.take_message.ensures.step
