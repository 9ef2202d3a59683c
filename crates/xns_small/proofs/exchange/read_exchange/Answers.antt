use Rattle.std.proofs.Common.{arith}
use Rattle.xns_small.specs.Exchange.{exchange_model, exchange_of}
use Rattle.xns_small.proofs.Exchanges.{exchange_format}
use Rattle.xns_small.proofs.Formats.{is_read}
use Rattle.xns_small.proofs.exchange.read_exchange.Goals as goal

pub returns : goal.returns
unfolding exchange_of
returns c =
    let read = is_read exchange_format exchange_model c.args.body.now c.read_fields.result (λ i. omega (arith, c.type_inv.body i)) c.read_fields.ensures in
    record { exact = c.read_fields.ensures; found = read.0; only = read.1 }
