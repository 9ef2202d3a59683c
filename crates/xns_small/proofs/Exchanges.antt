-- The format of a packet exchange.
use Rattle.std.proofs.Common.{ℕ, List, ◌++◌, drop, refl, ap, ◌∙◌, arith}
use Rattle.std.specs.Int.{w32, to_be_bytes}
use Rattle.xns_idp.specs.Reading.{word_at, long_at}
use Rattle.xns_small.specs.Exchange.{IsExchange, exchange_spelling}
use Rattle.xns_idp.proofs.Numbers.{word_back, long_back}
use Rattle.xns_small.proofs.Formats.{IsFormat}
use Rattle.xns_small.proofs.Numbers.{word_spelled, long_spelled}

pub exchange_format : IsFormat IsExchange exchange_spelling 6 (λ bytes. record { id = long_at bytes 0; client = word_at bytes 4; body = drop 6 bytes })
exchange_format = record {
  back = λ v fits. (omega arith, rw (long_back v.id fits.id, word_back v.client fits.client) refl);
  front = λ bytes fits le. long_spelled 0 bytes fits (omega (arith, le)) ∙ ap (λ (xs : List ℕ). to_be_bytes w32 (long_at bytes 0) ++ xs) (word_spelled 4 bytes fits le);
}
