use Rattle.xns_world.proofs.CallPlays.{ticked}
use Rattle.item_world.proofs.Quiet.{ok_then}
use Rattle.xns_world.specs.CallWorld.{in_world}
use Rattle.item_world.specs.World.{ticks}
use Rattle.xns_world.proofs.call_play.CallPlay.tick.Goals as goal

pub returns : goal.returns
returns g c =
    ok_then c.settle.result c.settle.ensures (λ goes p w ready h.
    let side = c.args.side in
    let play = c.args.self.now in
    let m = ticked g.S.Service.serving c.args.calls.now p play.ends c.tick.new.self play.network c.tick.new.network w side ready h c.in_ok-tick.ensures in
    goes p (in_world w (ticks w.world side)) m.ready m.playing)
