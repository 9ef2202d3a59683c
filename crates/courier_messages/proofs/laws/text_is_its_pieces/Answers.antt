use Rattle.std.proofs.Common.{[]}
use Rattle.courier_messages.proofs.Signs.{pieces_are}
use Rattle.courier_messages.proofs.laws.text_is_its_pieces.Goals as goal

pub returns : goal.returns
returns c = λ text h. pieces_are [] text h
