use Rattle.std.proofs.Common.{◌∙◌, ap}
use Rattle.xns_connection.specs.Deeds.{asked}
use Rattle.xns_connection.specs.declared.connection.Connection.{Connection}
use Rattle.xns_connection.specs.Step.{Step}
use Rattle.host_world.proofs.Paired.{at_side, one_waits, pair_closes, put}
use Rattle.host_world.proofs.pair.Pair.close.Goals as goal

pub returns-clause-steps : goal.returns-clause-steps
returns-clause-steps c = pair_closes c.a_step_keeps_its_promises.ensures c.args.self.now c.at.result.now c.close.new.self c.args.side c.args.now c.at.ensures.value c.close.ensures.step

pub returns-clause-waits : goal.returns-clause-waits
returns-clause-waits c = one_waits c.args.self.now c.at.result.now c.close.new.self c.args.side c.args.now c.at.ensures.value c.close.ensures.step.steps

pub returns-clause-asked : goal.returns-clause-asked
returns-clause-asked c =
    let kept = c.a_step_keeps_its_promises.ensures c.args.now asked c.at.result.now c.close.new.self c.close.ensures.step in
    ap (λ (k : Connection). k.conversation.closing.wanted) (put c.args.self.now c.args.side c.close.new.self) ∙ kept.wanted

pub returns-clause-step : goal.returns-clause-step
returns-clause-step c = at_side (λ (x y : Connection). Step c.args.now asked x y) c.args.self.now c.at.result.now c.close.new.self c.args.side c.at.ensures.value c.close.ensures.step
