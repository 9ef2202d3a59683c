use Rattle.std.proofs.Common.{sym, subst}
use Rattle.courier_calls.specs.Calls.{Serving}
use Rattle.xns_world.proofs.CallPlays.{caller_stepped, server_stepped}
use Rattle.item_world.proofs.Quiet.{ok_then}
use Rattle.xns_world.proofs.ServingEnds.{stepped_world}
use Rattle.xns_world.specs.CallLaws.{ServerLaws}
use Rattle.xns_world.specs.CallPlay.{IsCallPair}
use Rattle.xns_world.specs.CallWorld.{step}
use Rattle.xns_world.specs.ServeEnd.{IsServed}
use Rattle.xns_world.specs.Settling.{stepped_out, serve_step}
use Rattle.item_world.specs.declared.side.Side.{Side}
use Rattle.item_world.specs.declared.side.Side.TheVariants.{A, B}
use Rattle.xns_world.proofs.call_pair.CallPair.step_out.Goals as goal

pub returns-in-A : goal.returns-in-A
returns-in-A g c =
    ok_then c.step_out.result c.step_out.ensures (λ stepped p w ready h.
    let e = c.args.self.now in
    let a = c.step_out.new.self in
    let here = caller_stepped p ready.given.answering e w a h (stepped p w ready.given ready.between.holds ready.calls_are (h A)) in
    subst (λ (t : Side). IsCallPair p (record e { a = a }) (stepped_out (step p t) w)) (sym c.in-A.is) here)

pub returns-in-B : goal.returns-in-B
returns-in-B g c =
    ok_then c.step_out-in-B.result c.step_out-in-B.ensures (λ stepped p w ready h.
    let e = c.args.self.now in
    let b = c.step_out-in-B.new.self in
    let serves = subst (λ (u : Serving g.row.S.Denot). ServerLaws u p.service → IsServed u p.service e.b w.world.b → IsServed u p.service b (stepped_out (serve_step u p.service) w.world.b)) (sym ready.serving_is)
    (stepped p.service w.world.b) ready.given.answering (h B) in
    let here = server_stepped p ready.given.answering e w b h (stepped_world p b w serves) in
    subst (λ (t : Side). IsCallPair p (record e { b = b }) (stepped_out (step p t) w)) (sym c.in-B.is) here)
