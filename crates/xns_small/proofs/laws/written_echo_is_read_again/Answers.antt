use Rattle.xns_small.proofs.Echoes.{echo_again}
use Rattle.xns_small.proofs.laws.written_echo_is_read_again.Goals as goal

pub returns : goal.returns
returns c = echo_again
