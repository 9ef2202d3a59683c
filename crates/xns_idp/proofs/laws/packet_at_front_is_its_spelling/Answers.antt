use Rattle.xns_idp.proofs.RoundTrip.{packet_found, spelling_again, none_spelled}
use Rattle.xns_idp.proofs.laws.packet_at_front_is_its_spelling.Goals as goal

pub returns : goal.returns
returns c = record { found = packet_found; only = λ b taken rest p. spelling_again p taken rest b; none = none_spelled }
