use Rattle.item_world.proofs.Kept.{always_holds, begins_always, within_holds}
use Rattle.item_world.proofs.laws.items_come_in_order.Goals as goal

pub returns : goal.returns
returns c =
    let laws = c.each_step_keeps_the_order.ensures in
    record { begins = begins_always laws; holds = always_holds laws; within = within_holds laws }
