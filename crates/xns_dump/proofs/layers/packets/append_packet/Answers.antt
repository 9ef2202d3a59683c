use Rattle.std.proofs.Common.{arith}
use Rattle.xns_dump.proofs.Headers.{has_header}
use Rattle.xns_dump.proofs.layers.packets.append_packet.Goals as goal

pub append_idp_line-requires-clause-header : goal.append_idp_line-requires-clause-header
append_idp_line-requires-clause-header c = omega (arith, has_header c.args.bytes.now _ c.in-Ok.ensures.exact)
