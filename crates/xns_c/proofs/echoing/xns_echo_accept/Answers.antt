use Rattle.std.proofs.Common.{sym}
use Rattle.xns_idp.specs.Packet.{packet_model}
use Rattle.xns_c.proofs.Places.{stands}
use Rattle.xns_c.proofs.echoing.xns_echo_accept.Goals as goal

pub returns-clause-reply : goal.returns-clause-reply
returns-clause-reply c = λ _.
    stands 2 c.in-Some.length c.args.bytes.now (packet_model c.in-Ok.packet, c.in-Ok.field-0-1) (sym c.in-Ok.ensures.exact) c.in-Some.ensures.0
    c.in-Some.ensures.1
