use Rattle.courier_texts.proofs.Texts.{equal_texts}
use Rattle.courier_texts.proofs.laws.equal_texts_are_of_equal_values.Goals as goal

pub returns : goal.returns
returns c = equal_texts c.fitting_value_is_spelled.ensures
