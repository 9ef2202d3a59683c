use Rattle.item_world.proofs.Sides.{foreign_changes_nothing}
use Rattle.item_world.proofs.laws.foreign_bytes_change_nothing.Goals as goal

pub returns : goal.returns
returns c = foreign_changes_nothing c.end_laws_are_given.ensures
