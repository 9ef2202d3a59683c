use Rattle.xns_idp.proofs.Rotation.{cycle_checksum-rotated}
use Rattle.xns_idp.proofs.laws.checksum_is_added_and_rotated.Goals as goal

pub returns : goal.returns
returns c = cycle_checksum-rotated
