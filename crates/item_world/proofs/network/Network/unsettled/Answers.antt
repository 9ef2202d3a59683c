use Rattle.std.proofs.Common.{ℕ, ◌+◌, length, ap, subst, arith, sym, List}
use Rattle.item_world.proofs.Fronts.{element}
use Rattle.item_world.proofs.Networks.{AreListed, listed_more, listed_all}
use Rattle.item_world.proofs.network.Network.unsettled.Goals as goal
use Rattle.item_world.specs.Network.{IsNetwork}
use Rattle.item_world.specs.NetworkModel.{NetworkModel}

pub loop-number-preserved : goal.loop-number-preserved
loop-number-preserved c w h =
    let k = c.loop-number.number in
    let e = element w.bag k (omega (arith, ap length h.bag)) in
    subst (λ (l : List ℕ). AreListed w l c.first_unsettled-self-inside.result (k + 1)) (sym (c.in_ok-list.ensures w e.0 h e.1))
    (listed_more w c.loop-number.numbers.items c.first_unsettled-self-inside.result k e.0 e.1 (c.loop-number.invariant w h))

pub returns-clause-numbers : goal.returns-clause-numbers
returns-clause-numbers c w h =
    let rested = c.first_unsettled-self-inside.ensures w h in
    let n : NetworkModel = record { packets = c.self.inside.packets.items; taken = c.self.inside.taken; rested = c.self.inside.rested } in
    let here : IsNetwork n w = subst (λ (m : NetworkModel). IsNetwork m w) (sym c.self.view_is) h in
    listed_all w c.loop-number.numbers.items c.first_unsettled-self-inside.result c.loop-number.number (omega (arith, ap length here.bag)) rested
    (c.loop-number.invariant w (record { bag = here.bag; taken = here.taken; rested = rested }))
