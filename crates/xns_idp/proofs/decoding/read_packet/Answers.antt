use Rattle.std.proofs.Common.{rules}
use Rattle.xns_idp.specs.Reading.{packet_of, packet_fault, packet_fields}
use Rattle.xns_idp.proofs.decoding.read_packet.Goals as goal

pub returns-then-found-computed : goal.returns-then-found-computed
unfolding packet_of packet_fault packet_fields
returns-then-found-computed c = search rules

pub slice_bounds-packet-count : goal.slice_bounds-packet-count
unfolding packet_of packet_fault packet_fields
slice_bounds-packet-count c = search rules

pub slice_bounds-packet-start : goal.slice_bounds-packet-start
unfolding packet_of packet_fault packet_fields
slice_bounds-packet-start c = search rules

pub returns : goal.returns
unfolding packet_of packet_fault packet_fields
returns c = search rules
