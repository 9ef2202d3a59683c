use Rattle.std.proofs.Common.{length}
use Rattle.xns_calls.proofs.line_end.LineEnd.+write_behind_spaces.Given as goal

abbrev pub decreases-write_behind_spaces : goal.decreases-write_behind_spaces
decreases-write_behind_spaces l = length l.words.now
