use Rattle.std.proofs.Common.{map, refl, sym, ◌∙◌, ap}
use Rattle.courier_calls.specs.Calls.{seen_model}
use Rattle.courier_calls.specs.Server.{server_state}
use Rattle.item_world.specs.World.{handed_at}
use Rattle.item_world.specs.declared.side.Side.TheVariants.{A, B}
use Rattle.xns_world.proofs.ServingEnds.{served_of}
use Rattle.xns_world.proofs.call_pair.CallPair.into_parts.Goals as goal

pub returns-clause-carried : goal.returns-clause-carried
returns-clause-carried g c p w h = ap (λ v. v.items) c.into_parts-carried.ensures.carried ∙ (h B).hearing.carried

pub returns-clause-seen : goal.returns-clause-seen
returns-clause-seen g c p w h = ap (λ v. map seen_model v.items) c.into_seen.ensures ∙ (h A).seen

pub returns-clause-service : goal.returns-clause-service
returns-clause-service g c p w serving h =
    let heard = (served_of p.serving g.S.Service.serving p.service p.service _ _ (sym serving) refl (h B)).hearing in
    c.into_parts-carried.ensures.service p.service _ _ heard ∙ ap (λ x. server_state x p.service (handed_at w.world B)) (sym serving)
