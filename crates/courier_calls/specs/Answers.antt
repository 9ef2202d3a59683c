-- The messages that answers go out in (XSIS 038112, Courier, Message stream).
use Rattle.std.specs.Prelude.{ℕ}
use Rattle.courier_types.specs.Spelling.{value_spelling}
use Rattle.courier_messages.specs.declared.message.Message.{Message}
use Rattle.courier_messages.specs.declared.message.Message.TheVariants.{Return, Abort, Reject}
use Rattle.courier_calls.specs.Calls.{SeenModel}

abbrev pub answer_message : ℕ → SeenModel → Message
answer_message transaction (SeenModel.returned v) = Return transaction (value_spelling v)
answer_message transaction (SeenModel.aborted error v) = Abort transaction error (value_spelling v)
answer_message transaction (SeenModel.rejected reason words) = Reject transaction reason words
