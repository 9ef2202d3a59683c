use Rattle.std.proofs.Common.{codes}
use Rattle.xns_small.specs.Exchange.{exchange_model}
use Rattle.xns_dump.specs.Layers.Small.{exchange_fields}
use Rattle.xns_dump.proofs.Results.{adds_more}
use Rattle.xns_dump.proofs.layers.small.ExchangeLineText.append_text.Goals as goal

pub returns : goal.returns
returns c = adds_more c.append_exchange_fields.result c.args.report.now c.append.new.self c.append_exchange_fields.new.report (codes " exchange id ") (exchange_fields (exchange_model c.args.self.now)) c.append.ensures.text.front c.in_ok-append.ensures.text.line c.append_exchange_fields.ensures
