use Rattle.std.proofs.Common.{◌∙◌, sym, Some}
use Rattle.xns_calls.specs.Exchange.{scene_of}
use Rattle.xns_calls.specs.Read.{read_of, settled}
use Rattle.xns_calls.proofs.Continued.{step_done}
use Rattle.xns_calls.proofs.LessKept.{turn_end, turn_settled, turn_smaller}
use Rattle.xns_calls.proofs.settling.read_all.Goals as goal

pub loop-is_other-smaller : goal.loop-is_other-smaller
loop-is_other-smaller c =
    turn_smaller c.loop-is_other.flows.heading c.args.given c.in-Some.is_other (scene_of c.loop-is_other.flows) (scene_of c.in_turn.new.self)
    (sym c.in-Some.ensures) c.in_ok-in_turn.ensures.scene

pub loop-is_other-preserved : goal.loop-is_other-preserved
loop-is_other-preserved c =
    step_done (settled c.args.flows.now.heading c.args.given) (λ h. read_of h (Some c.in-Some.is_other)) c.args.flows.now c.loop-is_other.flows c.in_turn.new.self
    c.loop-is_other.invariant c.in_turn.ensures.kept c.in_ok-in_turn.ensures.scene
    (turn_settled c.args.flows.now.heading c.args.given c.in-Some.is_other (scene_of c.loop-is_other.flows) (sym c.in-Some.ensures))

pub returns-clause-scene : goal.returns-clause-scene
returns-clause-scene c =
    sym (turn_end c.args.flows.now.heading c.args.given (scene_of c.loop-is_other.flows) (sym c.in_default.ensures)) ∙ c.loop-is_other.invariant.1
