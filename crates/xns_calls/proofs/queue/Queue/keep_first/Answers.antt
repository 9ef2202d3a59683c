use Rattle.std.specs.Prelude.{is_ok}
use Rattle.xns_calls.proofs.QueueOrder.{kept_or_same}
use Rattle.xns_calls.proofs.queue.Queue.keep_first.Goals as goal

pub invariant_of-self : goal.invariant_of-self
invariant_of-self c =
    kept_or_same (is_ok c.push_front.result) c.args.number c.args.item c.self.inside.items.items c.args.self.now c.push_front.new.self.items
    c.self.invariant c.self.view_is c.requires c.push_front.ensures.items
