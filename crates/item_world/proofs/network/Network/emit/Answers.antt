use Rattle.std.proofs.Common.{List, refl, sym, ◌∙◌, ap, subst}
use Rattle.item_world.proofs.Networks.{emits}
use Rattle.item_world.proofs.network.Network.emit.Goals as goal
use Rattle.item_world.specs.Network.{IsNetwork}
use Rattle.item_world.specs.NetworkModel.{NetworkModel}
use Rattle.item_world.specs.World.{with_packets}
use Rattle.item_world.specs.declared.emitted.Emitted.{Emitted}

pub returns-clause-sends : goal.returns-clause-sends
returns-clause-sends c w s h is =
    let n : NetworkModel = record { packets = c.self.inside.packets.items; taken = c.self.inside.taken; rested = c.self.inside.rested } in
    let here : IsNetwork n w = subst (λ (m : NetworkModel). IsNetwork m w) (sym c.self.view_is) h in
    emits n (record n { packets = c.append_all.new.before.items }) w c.args.side s c.moment-at.result c.args.packets.items here is c.moment-at.ensures
    (c.append_all.ensures ∙ ap (λ (l : List Emitted). with_packets l c.args.side c.moment-at.result c.args.packets.items) c.reserve.ensures.items) refl refl
