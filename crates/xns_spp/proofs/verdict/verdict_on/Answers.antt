use Rattle.std.proofs.Common.{rules}
use Rattle.xns_spp.proofs.verdict.verdict_on.Goals as goal

pub returns-else-is_kept : goal.returns-else-is_kept
returns-else-is_kept c = search rules

pub returns-then-sequence-taken-2 : goal.returns-then-sequence-taken-2
returns-then-sequence-taken-2 c = search rules

pub returns-then-is_kept : goal.returns-then-is_kept
returns-then-is_kept c = search rules
