use Rattle.std.proofs.Common.{vec_len}
use Rattle.courier_types.proofs.value.drop_plain_end.Given as goal

abbrev pub decreases-loop-value : goal.decreases-loop-value
decreases-loop-value l = vec_len l.values
