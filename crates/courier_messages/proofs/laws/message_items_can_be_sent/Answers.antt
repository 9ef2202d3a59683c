use Rattle.std.proofs.Common.{ap, arith, length, ℕ}
use Rattle.std.proofs.lemmas.List.Elements.{All-from_recursion}
use Rattle.courier_messages.specs.Cutting.{cut}
use Rattle.courier_messages.specs.Message.{message_words, message_bytes}
use Rattle.courier_messages.specs.Laws.{IsSendableItem}
use Rattle.courier_messages.proofs.Cuts.{bytes_back, bytes_length}
use Rattle.courier_messages.proofs.Shorts.{cut_short, versions_short}
use Rattle.courier_messages.proofs.laws.message_items_can_be_sent.Goals as goal

pub returns : goal.returns
returns c = record {
  items = λ m h. All-from_recursion IsSendableItem (cut m) (cut_short m h);
  versions = versions_short;
  size = λ m short. omega (arith, short, ap (length {A = ℕ}) (bytes_back (message_bytes m)), bytes_length (message_words m));
}
