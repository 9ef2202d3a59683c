use Rattle.std.proofs.Common.{rules}
use Rattle.xns_c.proofs.endpoint.xns_endpoint_new_initiator.Goals as goal

pub returns-in-Ok-clause-made : goal.returns-in-Ok-clause-made
returns-in-Ok-clause-made c = search rules steps 2000000
