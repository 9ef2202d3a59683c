use Rattle.item_world.proofs.Kept.{start_kept, land_kept, read_kept, in_order, step_holds}
use Rattle.item_world.proofs.laws.each_step_keeps_the_order.Goals as goal

pub returns : goal.returns
returns c =
    let laws = c.end_laws_are_given.ensures in
    record { start = start_kept laws; each = step_holds laws; land = land_kept laws; order = in_order; read = read_kept laws }
