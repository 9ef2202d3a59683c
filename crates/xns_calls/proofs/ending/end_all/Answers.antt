use Rattle.std.proofs.Common.{◌∙◌, sym, Some}
use Rattle.xns_calls.specs.AtEnd.{both_ended, ended_of}
use Rattle.xns_calls.specs.Exchange.{scene_of}
use Rattle.xns_calls.proofs.Continued.{step_done}
use Rattle.xns_calls.proofs.LessAtEnd.{turn_end, turn_ended, turn_smaller}
use Rattle.xns_calls.proofs.ending.end_all.Goals as goal

pub loop-is_other-smaller : goal.loop-is_other-smaller
loop-is_other-smaller c =
    turn_smaller c.loop-is_other.flows.heading c.in-Some.is_other (scene_of c.loop-is_other.flows) (scene_of c.in_turn.new.self)
    (sym c.in-Some.ensures) c.in_ok-in_turn.ensures.scene

pub loop-is_other-preserved : goal.loop-is_other-preserved
loop-is_other-preserved c =
    step_done (both_ended c.args.flows.now.heading) (λ h. ended_of h (Some c.in-Some.is_other)) c.args.flows.now c.loop-is_other.flows c.in_turn.new.self
    c.loop-is_other.invariant c.in_turn.ensures.kept c.in_ok-in_turn.ensures.scene
    (turn_ended c.args.flows.now.heading c.in-Some.is_other (scene_of c.loop-is_other.flows) (sym c.in-Some.ensures))

pub returns-clause-scene : goal.returns-clause-scene
returns-clause-scene c =
    sym (turn_end c.args.flows.now.heading (scene_of c.loop-is_other.flows) (sym c.in_default.ensures)) ∙ c.loop-is_other.invariant.1
