use Rattle.xns_world.proofs.CallPlays.{settled}
use Rattle.item_world.proofs.Quiet.{ok_then}
use Rattle.xns_world.proofs.call_play.CallPlay.settle.Goals as goal

pub returns : goal.returns
returns g c =
    ok_then c.flush.result c.flush.ensures (λ acts p w ready h.
    settled p c.step_out.new.self c.flush.new.self c.args.self.now.network c.flush.new.network w c.args.side ready.given ready.between (c.in_ok-step_out.ensures p w ready h.ends) h.network acts)
