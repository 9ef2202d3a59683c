-- What contracts see of a network.
use Rattle.std.specs.Prelude.{ℕ, List}
use Rattle.item_world.specs.declared.counts.Counts.{Counts}
use Rattle.item_world.specs.declared.emitted.Emitted.{Emitted}

-- every packet that was ever sent, in order; how many items each end has taken; and how many packets at the front are
-- known to be settled
pub record NetworkModel : Type 0 where
  pub packets : List Emitted
  pub taken : Counts
  pub rested : ℕ
