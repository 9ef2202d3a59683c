use Rattle.courier_messages.proofs.MessageWords.{read_is_short}
use Rattle.courier_messages.proofs.Written.{read_back, spelled_is_read}
use Rattle.courier_messages.proofs.laws.message_is_spelled.Goals as goal

pub returns : goal.returns
returns c = record {
  said = λ m bytes even h. spelled_is_read bytes m even h;
  short = read_is_short;
  written = λ m words h. read_back m (rw (← h.spells) h.size);
}
