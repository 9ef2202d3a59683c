use Rattle.xns_spp.specs.Sending.{flush_answer, after_flush}
use Rattle.item_world.proofs.GoingOut.{goes_out}
use Rattle.item_world.proofs.ends.flush_end.Goals as goal

pub returns : goal.returns
returns c =
    goes_out after_flush flush_answer c.args.side c.emit.result c.args.endpoint.now c.flush.new.self c.args.network.now c.emit.new.self c.in_ok-packets.packets.items
    (λ laws s. (laws.hears.flush s).taken) c.in_ok-packets.ensures.stands c.in_ok-packets.ensures.answer c.emit.ensures.unchanged c.emit.ensures.memory c.emit.ensures.sends
