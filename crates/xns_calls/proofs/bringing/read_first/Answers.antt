use Rattle.std.proofs.Common.{◌∙◌, ap, sym}
use Rattle.xns_calls.specs.Exchange.{scene, scene_of}
use Rattle.xns_calls.specs.declared.side.Side.{Side}
use Rattle.xns_calls.proofs.InFlow.{next_taken, none_next}
use Rattle.xns_calls.proofs.Places.{on_ok_with}
use Rattle.xns_calls.proofs.bringing.read_first.Goals as goal

pub returns-in_default-clause-scene : goal.returns-in_default-clause-scene
returns-in_default-clause-scene c =
    ap (λ (own : Side). scene own c.args.flows.now.other.now c.args.flows.now.page.now) c.in_default.ensures.same
    ∙ sym (none_next c.args.flows.now.heading (scene_of c.args.flows.now) c.in_default.ensures.none)

pub returns-clause-scene : goal.returns-clause-scene
returns-clause-scene c = on_ok_with c.read_item.result _ _ c.read_item.ensures.scene (λ e.
    e ∙ next_taken c.args.flows.now.heading c.in-Some.early (scene_of c.args.flows.now) (scene c.take_next.new.self c.args.flows.now.other.now c.args.flows.now.page.now) c.in-Some.ensures.some
    (ap (λ (own : Side). scene own c.args.flows.now.other.now c.args.flows.now.page.now) c.take_next.ensures.others))
