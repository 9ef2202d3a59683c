use Rattle.std.proofs.Common.{rules}
use Rattle.xns_spp.specs.Sending.{flush_answer, after_flush}
use Rattle.xns_c.specs.KeptEndpoint.{Makes}
use Rattle.xns_c.proofs.Kept.{changed}
use Rattle.xns_c.proofs.endpoint.xns_endpoint_flush.Goals as goal

pub returns : goal.returns
returns c = changed _ _ _ _ _ (Makes flush_answer after_flush c.change.result) c.change.ensures (λ k n did. search rules)
