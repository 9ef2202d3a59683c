use Rattle.std.proofs.Common.{◌∙◌, subst, take_all}
use Rattle.std.specs.Prelude.{All}
use Rattle.std.proofs.lemmas.List.Elements.{All-more}
use Rattle.xns_idp.specs.Packet.{AreBytes}
use Rattle.xns_world.proofs.serve.known_packets.Goals as goal

pub loop-packet-preserved : goal.loop-packet-preserved
loop-packet-preserved c =
    All-more AreBytes c.args.packets.now c.loop-packet.packet-index c.packet-item.result c.loop-packet-test.true c.loop-packet.invariant
    (subst AreBytes (c.as_slice.ensures ∙ c.packet-item.is) c.known_bytes.ensures)

pub returns : goal.returns
returns c =
    let past = c.loop-packet-test.false in
    subst (All AreBytes) (take_all c.loop-packet.packet-index c.args.packets.now past) c.loop-packet.invariant
