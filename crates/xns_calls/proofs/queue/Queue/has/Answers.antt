use Rattle.xns_calls.proofs.QueueOrder.{has_none, has_some}
use Rattle.xns_calls.proofs.queue.Queue.has.Goals as goal

pub returns-in-Some : goal.returns-in-Some
returns-in-Some c =
    has_some c.args.number c.place.result c.get-in-Some.result c.in-Some.early.now c.self.inside.items.items c.args.self.now c.self.invariant c.self.view_is c.place.ensures.value
    c.in-Some.ensures.item.3.0 c.in-Some.ensures.lookup c.get-in-Some.ensures.same

pub returns-in-None : goal.returns-in-None
returns-in-None c =
    has_none c.args.number c.place.result c.self.inside.items.items c.args.self.now c.self.invariant c.self.view_is c.place.ensures.value c.in-None.ensures.item.3
