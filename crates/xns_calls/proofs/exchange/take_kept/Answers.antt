use Rattle.std.proofs.Common.{◌∙◌, ap}
use Rattle.xns_idp.specs.Packet.{packet_model}
use Rattle.xns_calls.specs.Exchange.{after_content, scene_of}
use Rattle.xns_calls.proofs.Wanted.{content_wants, on_err, on_err_with, own_wants}
use Rattle.xns_calls.proofs.exchange.take_kept.Goals as goal

pub returns-in_err-take_content-clause-memory : goal.returns-in_err-take_content-clause-memory
returns-in_err-take_content-clause-memory c =
    on_err c.from_residual-in_err-take_content.result _
    (content_wants c.args.flows.now.heading c.args.due c.args.arrived.now.header.now c.args.flows.now.own.now c.args.flows.now.other.now c.reach_other.new.flows.own.now c.reach_other.new.flows.other.now c.args.flows.now.page.now c.reach_other.new.flows.page.now
    c.in_ok-reach_other.ensures.scene c.in_err-take_content.ensures.memory)

pub returns-clause-memory : goal.returns-clause-memory
returns-clause-memory c =
    on_err_with c.reach_own.result _ _ c.reach_own.ensures.memory
    (own_wants c.args.flows.now.heading c.args.due (packet_model c.args.arrived.now.packet.now) c.args.arrived.now.header.now c.args.arrived.now.content.now c.args.flows.now.own.now c.args.flows.now.other.now c.reach_other.new.flows.own.now c.reach_other.new.flows.other.now c.take_content.new.flows.own.now c.take_content.new.flows.other.now
    c.args.flows.now.page.now c.reach_other.new.flows.page.now c.take_content.new.flows.page.now c.in_ok-reach_other.ensures.scene
    (c.in_ok-take_content.ensures.scene ∙ ap (λ h. after_content h c.args.due.acknowledged (packet_model c.args.arrived.now.packet.now) c.args.arrived.now.header.now c.args.arrived.now.content.now (scene_of c.reach_other.new.flows)) c.reach_other.ensures.kept.0))
