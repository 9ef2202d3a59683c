use Rattle.std.proofs.Common.{rules}
use Rattle.xns_idp.specs.Reading.{address_at}
use Rattle.xns_idp.proofs.places.read_address.Goals as goal

pub returns : goal.returns
unfolding address_at
returns c = search rules
