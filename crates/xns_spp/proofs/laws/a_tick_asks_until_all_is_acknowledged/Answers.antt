use Rattle.xns_spp.proofs.Asking.{asks, tick_sent}
use Rattle.xns_spp.proofs.laws.a_tick_asks_until_all_is_acknowledged.Goals as goal

pub returns : goal.returns
returns c = record { asks = asks; sent = tick_sent }
