use Rattle.std.proofs.Common.{length, sym, ◌∙◌, ap, arith}
use Rattle.item_world.proofs.Fronts.{element}
use Rattle.item_world.proofs.Networks.{rested_more}
use Rattle.item_world.proofs.network.Network.first_unsettled.Goals as goal
use Rattle.item_world.specs.NetworkModel.{NetworkModel}

pub loop-number-preserved : goal.loop-number-preserved
loop-number-preserved c w h =
    let k = c.loop-number.number in
    let e = element w.bag k (omega (arith, ap length h.bag, ap (λ (n : NetworkModel). length n.packets) c.self.view_is)) in
    rested_more k w e.0 e.1 (sym (c.is_settled.ensures w e.0 h e.1) ∙ c.if-not-is_settled.false) (c.loop-number.invariant w h)
