use Rattle.std.proofs.Common.{◌∙◌, rules, SFits}
use Rattle.std.specs.Int.{w16}
use Rattle.std.proofs.lemmas.Int.{to_z-of_z}
use Rattle.xns_c.proofs.Spelled.{integer_read}
use Rattle.xns_c.proofs.reader.xns_read_integer.Goals as goal

pub returns-then-result-eq-OK-clause-read : goal.returns-then-result-eq-OK-clause-read
returns-then-result-eq-OK-clause-read c = λ good. let fits : SFits w16 c.cast_signed.result = search rules in
    integer_read _ _ _ _ _ _ (c.xns_read_cardinal-result.ensures.read good) (λ _. to_z-of_z w16 c.cast_signed.result fits ∙ c.cast_signed.ensures)

pub returns-else-result-eq-OK-clause-read : goal.returns-else-result-eq-OK-clause-read
returns-else-result-eq-OK-clause-read c = λ good. integer_read _ _ _ _ _ _ (c.xns_read_cardinal-result.ensures.read good) (λ is. absurd (c.if-result-eq-OK.false is))
