use Rattle.std.proofs.Common.{rules}
use Rattle.xns_dump.proofs.flows.packet_flow.flow_of.Goals as goal

pub returns : goal.returns
returns c = search rules
