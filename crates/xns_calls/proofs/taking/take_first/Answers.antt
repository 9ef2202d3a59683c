use Rattle.std.proofs.Common.{◌≡◌, subst}
use Rattle.std.specs.Prelude.{OnOk}
use Rattle.xns_idp.specs.Packet.{packet_model}
use Rattle.xns_calls.specs.Exchange.{scene_of}
use Rattle.xns_calls.specs.Read.{handled}
use Rattle.xns_calls.specs.declared.heading.Heading.{Heading}
use Rattle.xns_calls.proofs.AtOnce.{first_wants, on_ok_begun}
use Rattle.xns_calls.proofs.Wanted.{on_err}
use Rattle.xns_calls.proofs.taking.take_first.Goals as goal

pub returns-clause-memory : goal.returns-clause-memory
returns-clause-memory c =
    on_err c.take_begun.result _ (first_wants c.args.due c.args.arrived.now.header.now c.args.flows.now.own.now c.args.flows.now.other.now c.args.flows.now.page.now c.requires)

pub returns-clause-scene : goal.returns-clause-scene
returns-clause-scene c =
    let Handles : Heading → Type 0 = λ h. OnOk c.take_begun.result (scene_of c.take_begun.new.flows
    ≡ handled h c.args.due (packet_model c.args.arrived.now.packet.now) c.args.arrived.now.header.now c.args.arrived.now.content.now (scene_of c.begin.new.flows)) in
    on_ok_begun c.take_begun.result c.args.flows.now.heading c.args.due (packet_model c.args.arrived.now.packet.now) c.args.arrived.now.header.now c.args.arrived.now.content.now (scene_of c.args.flows.now)
    (scene_of c.begin.new.flows) (scene_of c.take_begun.new.flows)
    c.requires c.in_ok-begin.ensures.scene (subst Handles c.begin.ensures.kept.0 c.take_begun.ensures.scene)
