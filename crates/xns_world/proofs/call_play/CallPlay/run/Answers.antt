use Rattle.std.proofs.Common.{List}
use Rattle.xns_world.proofs.CallRuns.{settles_between}
use Rattle.item_world.proofs.Quiet.{ok_then}
use Rattle.xns_world.specs.CallPlay.{IsReady}
use Rattle.xns_world.specs.CallWorld.{Parties, CallWorld, settles}
use Rattle.item_world.specs.declared.side.Side.{Side}
use Rattle.item_world.specs.declared.side.Side.TheVariants.{A, B}
use Rattle.courier_calls.specs.Calls.{Serving}
use Rattle.courier_calls.specs.declared.call.Call.{Call}
use Rattle.xns_world.proofs.call_play.CallPlay.run.Goals as goal

settled : {S : Type 0} (serving : Serving S) (cs : List Call) (p : Parties S) (side : Side) (w : CallWorld) → IsReady serving cs p w → IsReady serving cs p (settles p side w)
settled serving cs p side w ready = record { given = ready.given; between = settles_between p side w ready.given ready.between; serving_is = ready.serving_is; calls_are = ready.calls_are }

pub returns : goal.returns
returns g c =
    ok_then c.happen_all.result c.happen_all.ensures (λ goes p w ready h.
    let serving = g.S.Service.serving in
    let cs = c.args.calls.now in
    let v = settles p A w in
    let at_a = settled serving cs p A w ready in
    goes p (settles p B v) (settled serving cs p B v at_a) (c.in_ok-settle-2.ensures p v at_a (c.in_ok-settle.ensures p w ready h)))
