use Rattle.std.proofs.Common.{rules}
use Rattle.courier_messages.proofs.spare.Spare.keep.Goals as goal

pub invariant_of-self : goal.invariant_of-self
invariant_of-self c = search rules
