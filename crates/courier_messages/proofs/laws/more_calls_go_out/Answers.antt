use Rattle.courier_messages.proofs.More.{items_more, made_begin}
use Rattle.courier_messages.proofs.laws.more_calls_go_out.Goals as goal

pub returns : goal.returns
returns c = record { one = items_more; front = made_begin }
