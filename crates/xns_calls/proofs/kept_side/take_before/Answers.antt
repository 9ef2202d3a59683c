use Rattle.xns_idp.specs.Packet.{packet_model}
use Rattle.xns_calls.proofs.Absent.{before}
use Rattle.xns_calls.proofs.Places.{on_ok_with}
use Rattle.xns_calls.proofs.kept_side.take_before.Goals as goal

pub returns-clause-scene : goal.returns-clause-scene
returns-clause-scene c = on_ok_with c.take_packet.result _ _ c.take_packet.ensures.scene
    (before c.args.heading.now c.args.due (packet_model c.args.arrived.now.packet.now) c.args.arrived.now.header.now c.args.arrived.now.content.now c.none-own.result c.args.other.now c.take_packet.new.own c.take_packet.new.other c.args.page.now c.take_packet.new.page c.none-own.ensures c.requires)
