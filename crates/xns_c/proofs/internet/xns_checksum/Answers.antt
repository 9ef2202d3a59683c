use Rattle.std.proofs.Common.{rules}
use Rattle.xns_c.proofs.internet.xns_checksum.Goals as goal

pub returns-then-bytes-ne0-clause-odd : goal.returns-then-bytes-ne0-clause-odd
returns-then-bytes-ne0-clause-odd c = search rules
