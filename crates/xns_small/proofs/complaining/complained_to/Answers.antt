use Rattle.std.proofs.Common.{rules}
use Rattle.xns_small.proofs.complaining.complained_to.Goals as goal

pub returns : goal.returns
returns c = search rules

pub returns-then-offending-lt-HEADER_BYTES : goal.returns-then-offending-lt-HEADER_BYTES
returns-then-offending-lt-HEADER_BYTES c = search rules
