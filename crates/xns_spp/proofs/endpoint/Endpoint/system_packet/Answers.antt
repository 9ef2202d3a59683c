use Rattle.std.proofs.Common.{rules}
use Rattle.xns_spp.proofs.endpoint.Endpoint.system_packet.Goals as goal

pub returns-clause-answer : goal.returns-clause-answer
returns-clause-answer c = search rules
