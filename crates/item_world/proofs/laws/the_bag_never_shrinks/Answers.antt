use Rattle.item_world.proofs.Later.{run_stays}
use Rattle.item_world.proofs.laws.the_bag_never_shrinks.Goals as goal

pub returns : goal.returns
returns c = run_stays c.end_laws_are_given.ensures
