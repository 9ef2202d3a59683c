use Rattle.courier_messages.proofs.Numbered.{hears_calls}
use Rattle.courier_messages.proofs.laws.calls_are_heard.Goals as goal

pub returns : goal.returns
returns c = hears_calls
