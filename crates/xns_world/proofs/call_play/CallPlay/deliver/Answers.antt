use Rattle.std.proofs.Common.{sym, subst}
use Rattle.xns_world.proofs.CallPlays.{landed}
use Rattle.xns_world.proofs.CallRuns.{arrived, arrived_nowhere}
use Rattle.item_world.proofs.Quiet.{ok_then}
use Rattle.xns_world.specs.CallPlay.{IsCallPlaying}
use Rattle.xns_world.specs.CallWorld.{CallWorld, in_world}
use Rattle.xns_world.proofs.call_play.CallPlay.deliver.Goals as goal

pub returns : goal.returns
returns g c =
    ok_then c.settle.result c.settle.ensures (λ goes p w ready h.
    let k = c.args.number in
    let side = c.in-Some.side in
    let play = c.args.self.now in
    let came = ready.given.answering.network.reached.some w.world k side (c.in-Some.ensures.lands w.world h.network) in
    let m = landed g.S.Service.serving c.args.calls.now p play.ends c.land.new.self play.network c.land.new.network w k came.0 side ready h came.1 c.in_ok-land.ensures in
    subst (λ (v : CallWorld). IsCallPlaying p c.settle.new.self v) (sym (arrived p w k (side, came.0) came.1)) (goes p (in_world w came.0) m.ready m.playing))

pub returns-in_default : goal.returns-in_default
returns-in_default g c p w ready h = subst (λ (v : CallWorld). IsCallPlaying p c.args.self.now v) (sym (arrived_nowhere p w c.args.number (ready.given.answering.network.reached.none w.world c.args.number (c.in_default.ensures.lands w.world h.network)))) h
