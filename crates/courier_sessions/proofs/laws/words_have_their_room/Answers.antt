use Rattle.courier_sessions.proofs.Room.{read, call, outcome}
use Rattle.courier_sessions.proofs.laws.words_have_their_room.Goals as goal

pub returns : goal.returns
returns c = let law = c.message_is_spelled.ensures in record { read = read law; call = call law; outcome = outcome law }
