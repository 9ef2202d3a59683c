use Rattle.item_world.proofs.Quiet.{ok_then}
use Rattle.xns_world.specs.Serve.{serve_settles}
use Rattle.xns_world.proofs.serve.ServePlay.run.Goals as goal

pub returns : goal.returns
returns g c =
    ok_then c.serve_each.result c.serve_each.ensures (λ goes s w answering h.
    goes s (serve_settles g.S.Service.serving s w) answering (c.in_ok-settle.ensures s w answering h))
