use Rattle.std.proofs.Common.{rules}
use Rattle.xns_c.specs.KeptEndpoint.{Accepts}
use Rattle.xns_c.specs.Structs.{item_given}
use Rattle.xns_c.proofs.Kept.{changed}
use Rattle.xns_c.proofs.endpoint.xns_endpoint_send.Goals as goal

pub returns : goal.returns
returns c =
    changed _ _ _ _ _ (λ k n. Accepts k n (item_given c.args.stream c.args.attention c.args.last c.args.body.now) c.change.result) c.change.ensures (λ k n did. search rules)
