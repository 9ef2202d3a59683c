use Rattle.xns_calls.proofs.Packets.{read_back}
use Rattle.xns_calls.proofs.laws.numbers_are_read_back.Goals as goal

pub returns : goal.returns
returns c = read_back c.nearest_number_is_read_back.ensures
