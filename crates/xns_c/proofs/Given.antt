-- What C is told of a message says which it is.
use Rattle.std.proofs.Common.{◌≡◌, refl, Some}
use Rattle.courier_messages.specs.declared.message.Message.{Message}
use Rattle.courier_messages.specs.declared.message.Message.TheVariants.{Call, Reject, Return, Abort}
use Rattle.courier_messages.specs.Head.{words_in}
use Rattle.xns_c.specs.Heads.{head_given, message_given}

pub given_again : (m : Message) → message_given (head_given m) (words_in m) ≡ Some m
given_again (Call transaction program version procedure words) = refl
given_again (Reject transaction reason words) = refl
given_again (Return transaction words) = refl
given_again (Abort transaction error words) = refl
