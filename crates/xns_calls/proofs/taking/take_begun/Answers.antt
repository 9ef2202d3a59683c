use Rattle.std.proofs.Common.{sym}
use Rattle.xns_idp.specs.Packet.{packet_model}
use Rattle.xns_calls.specs.Exchange.{scene_of}
use Rattle.xns_calls.proofs.AtOnce.{on_ok_once, once_wants}
use Rattle.xns_calls.proofs.Wanted.{on_err}
use Rattle.xns_calls.proofs.taking.take_begun.Goals as goal

pub returns-in-Some-clause-memory : goal.returns-in-Some-clause-memory
returns-in-Some-clause-memory c =
    on_err c.read_arrived.result _ (once_wants c.args.due c.args.arrived.now.header.now c.in-Some.number c.args.flows.now.own.now c.args.flows.now.other.now c.args.flows.now.page.now (sym c.in-Some.ensures.value))

pub returns-in-Some-clause-scene : goal.returns-in-Some-clause-scene
returns-in-Some-clause-scene c =
    on_ok_once c.read_arrived.result c.args.flows.now.heading c.args.due (packet_model c.args.arrived.now.packet.now) c.args.arrived.now.header.now c.args.arrived.now.content.now c.in-Some.number (scene_of c.args.flows.now)
    (scene_of c.read_arrived.new.flows) (sym c.in-Some.ensures.value) c.read_arrived.ensures.scene
