use Rattle.std.proofs.Common.{◌∙◌, arith, ◌/◌}
use Rattle.std.proofs.lemmas.Result.{on_ok_weaker}
use Rattle.xns_lines.proofs.WordsInHex.{words_appended}
use Rattle.xns_lines.proofs.numbers.append_words.Goals as goal

pub returns : goal.returns
returns c = record {
  front = c.append_hex.ensures.front ∙ c.in_ok-append_spaced.ensures.front;
  line = on_ok_weaker c.append_hex.result
      (λ ok. words_appended c.args.report.now.line c.append_spaced.new.self.line _ c.args.bytes.now (c.saturating_sub-words.result / 2) (omega arith) c.in_ok-append_spaced.ensures.line ok)
      c.append_hex.ensures.line;
}
