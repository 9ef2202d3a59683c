use Rattle.courier_messages.proofs.Numbered.{hears}
use Rattle.courier_messages.proofs.laws.a_front_is_heard.Goals as goal

pub returns : goal.returns
returns c = hears
