use Rattle.xns_small.specs.Exchange.{exchange_of}
use Rattle.xns_small.proofs.Exchanges.{exchange_format}
use Rattle.xns_small.proofs.Formats.{spelled_is_read}
use Rattle.xns_small.proofs.laws.written_exchange_is_read_again.Goals as goal

pub returns : goal.returns
unfolding exchange_of
returns c = spelled_is_read exchange_format
