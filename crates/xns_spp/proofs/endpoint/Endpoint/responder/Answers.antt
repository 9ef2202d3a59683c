use Rattle.std.proofs.Common.{rules}
use Rattle.xns_spp.proofs.endpoint.Endpoint.responder.Goals as goal

pub returns : goal.returns
returns c = search rules
