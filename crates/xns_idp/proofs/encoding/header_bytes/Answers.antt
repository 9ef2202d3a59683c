use Rattle.std.proofs.Common.{arith}
use Rattle.xns_idp.specs.Packet.{address_bytes}
use Rattle.xns_idp.proofs.Cells.{header_cells}
use Rattle.xns_idp.proofs.encoding.header_bytes.Goals as goal

pub returns : goal.returns
returns c =
    let p = c.args.packet.now in
    header_cells c.to_be_bytes.result c.to_bytes.result c.to_bytes-2.result _ (address_bytes p.target) (address_bytes p.source) p.control p.kind
    c.to_be_bytes.ensures (omega arith) (omega arith) c.to_bytes.ensures c.to_bytes-2.ensures
