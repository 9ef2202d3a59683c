use Rattle.xns_agenda.proofs.Thirds.{third_after_two}
use Rattle.xns_agenda.proofs.laws.a_third_reply_comes_after_two.Goals as goal

pub returns : goal.returns
returns c = third_after_two
