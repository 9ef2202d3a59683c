use Rattle.courier_messages.proofs.Apart.{says_less}
use Rattle.courier_messages.proofs.laws.a_part_says_less.Goals as goal

pub returns : goal.returns
returns c = says_less
