use Rattle.std.proofs.Common.{◌≡◌}
use Rattle.xns_connection.specs.Deeds.{acted}
use Rattle.xns_connection.specs.Step.{parts_of}
use Rattle.xns_connection.specs.declared.connection.Connection.{Connection}
use Rattle.host_world.proofs.Paired.{at_side, pair_goes}
use Rattle.host_world.proofs.pair.Pair.act.Goals as goal

pub returns-clause-steps : goal.returns-clause-steps
returns-clause-steps c = pair_goes c.args.self.now c.at.result.now c.act.new.self c.args.side c.at.ensures.value c.act.ensures.packets c.act.ensures.goes

pub returns-clause-step : goal.returns-clause-step
returns-clause-step c =
    at_side (λ (x y : Connection). parts_of y ≡ acted (parts_of x) c.args.now) c.args.self.now c.at.result.now c.act.new.self c.args.side c.at.ensures.value c.act.ensures.step
