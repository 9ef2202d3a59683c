-- The format of an Error report.
use Rattle.std.proofs.Common.{ℕ, List, ◌++◌, drop, refl, ap, ◌∙◌, arith}
use Rattle.std.specs.Int.{w16, to_be_bytes}
use Rattle.xns_idp.specs.Reading.{word_at}
use Rattle.xns_small.specs.ErrorReport.{IsErrorReport, error_spelling}
use Rattle.xns_idp.proofs.Numbers.{word_back}
use Rattle.xns_small.proofs.Formats.{IsFormat}
use Rattle.xns_small.proofs.Numbers.{word_spelled}

pub error_format : IsFormat IsErrorReport error_spelling 4 (λ bytes. record { number = word_at bytes 0; parameter = word_at bytes 2; quoted = drop 4 bytes })
error_format = record {
  back = λ v fits. (omega arith, rw (word_back v.number fits.number, word_back v.parameter fits.parameter) refl);
  front = λ bytes fits le. word_spelled 0 bytes fits (omega (arith, le)) ∙ ap (λ (xs : List ℕ). to_be_bytes w16 (word_at bytes 0) ++ xs) (word_spelled 2 bytes fits le);
}
