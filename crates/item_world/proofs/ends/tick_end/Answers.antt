use Rattle.xns_spp.specs.Sending.{tick_answer, after_tick}
use Rattle.item_world.proofs.GoingOut.{goes_out}
use Rattle.item_world.proofs.ends.tick_end.Goals as goal

pub returns : goal.returns
returns c =
    goes_out after_tick tick_answer c.args.side c.emit.result c.args.endpoint.now c.tick.new.self c.args.network.now c.emit.new.self c.in_ok-packets.packets.items
    (λ laws s. (laws.hears.tick s).taken) c.in_ok-packets.ensures.stands c.in_ok-packets.ensures.answer c.emit.ensures.unchanged c.emit.ensures.memory c.emit.ensures.sends
