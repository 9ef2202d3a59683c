use Rattle.std.proofs.Common.{◌∙◌, rules, SFits}
use Rattle.std.specs.Int.{w32}
use Rattle.std.proofs.lemmas.Int.{to_z-of_z}
use Rattle.xns_c.proofs.Spelled.{long_integer_read}
use Rattle.xns_c.proofs.reader.xns_read_long_integer.Goals as goal

pub returns-then-result-eq-OK-clause-read : goal.returns-then-result-eq-OK-clause-read
returns-then-result-eq-OK-clause-read c = λ good. let fits : SFits w32 c.cast_signed.result = search rules in
    long_integer_read _ _ _ _ _ _ (c.xns_read_long_cardinal-result.ensures.read good) (λ _. to_z-of_z w32 c.cast_signed.result fits ∙ c.cast_signed.ensures)

pub returns-else-result-eq-OK-clause-read : goal.returns-else-result-eq-OK-clause-read
returns-else-result-eq-OK-clause-read c = λ good. long_integer_read _ _ _ _ _ _ (c.xns_read_long_cardinal-result.ensures.read good) (λ is. absurd (c.if-result-eq-OK.false is))
