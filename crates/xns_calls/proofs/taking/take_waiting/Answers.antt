use Rattle.xns_idp.specs.Packet.{packet_model}
use Rattle.xns_calls.proofs.Wanted.{on_err_with, turn_wants}
use Rattle.xns_calls.proofs.taking.take_waiting.Goals as goal

pub returns-clause-memory : goal.returns-clause-memory
returns-clause-memory c =
    on_err_with c.settle.result _ _ c.settle.ensures.memory
    (turn_wants c.args.flows.now.heading c.args.due (packet_model c.args.arrived.now.packet.now) c.args.arrived.now.header.now c.args.arrived.now.content.now c.args.flows.now.own.now c.args.flows.now.other.now c.take_kept.new.flows.own.now c.take_kept.new.flows.other.now
    c.args.flows.now.page.now c.take_kept.new.flows.page.now c.in_ok-take_kept.ensures.scene)
