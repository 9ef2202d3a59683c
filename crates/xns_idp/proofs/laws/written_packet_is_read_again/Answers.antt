use Rattle.xns_idp.proofs.RoundTrip.{plain_spells, plain_again, plain_length}
use Rattle.xns_idp.proofs.laws.written_packet_is_read_again.Goals as goal

pub returns : goal.returns
returns c = record { spells = plain_spells; again = plain_again; size = plain_length }
