use Rattle.xns_c.proofs.Given.{given_again}
use Rattle.xns_c.proofs.laws.a_message_that_is_given_is_written_again.Goals as goal

pub returns : goal.returns
returns c = given_again
