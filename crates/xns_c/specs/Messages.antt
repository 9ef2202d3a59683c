-- Courier's messages that are read from bytes, and written as bytes (XSIS 038112, Courier, Message stream).
use Rattle.std.specs.Prelude.{◌≡◌, ◌≢◌, ◌<◌, ℕ, List, length, Option, Some, None, Ok, Err}
use Rattle.courier_messages.specs.Head.{words_in}
use Rattle.courier_messages.specs.Message.{most_bytes, message_bytes, message_of}
use Rattle.courier_messages.specs.declared.fault.MessageFault.{MessageFault}
use Rattle.courier_messages.specs.declared.message.Message.{Message}
use Rattle.xns_c.specs.Buffers.{IsUnwritten, Writes, WritesUpTo}
use Rattle.xns_c.specs.Faults.{message_fault_number}
use Rattle.xns_c.specs.Heads.{head_given}
use Rattle.xns_c.specs.Results.{ok, bad_argument}
use Rattle.xns_c.specs.declared.message.XnsMessage.{XnsMessage}

-- the head of the message is told, and its words are written, for which memory is wanted where there are any. Of bytes that are no message
-- nothing is written, and their first fault is returned
pub record ReadsMessage (bytes : List ℕ) (before after : XnsMessage) (old new : List ℕ) (had told result : ℕ) : Type 0 where
  pub words : (m : Message) → message_of bytes ≡ Ok m
      → Writes (0 < length (words_in m)) (words_in m) (length (words_in m)) old new had told result
  pub head : (m : Message) → message_of bytes ≡ Ok m → result ≡ ok → after ≡ head_given m
  pub fault : (f : MessageFault) → message_of bytes ≡ Err f → (result ≡ message_fault_number f) × IsUnwritten old new had told
  pub headless : result ≢ ok → after ≡ before

-- the bytes of the message are written, up to as many as a message may have. Where there is no message nothing is written
pub record WritesMessage (given : Option Message) (old new : List ℕ) (had told result : ℕ) : Type 0 where
  pub bad : given ≡ None → (result ≡ bad_argument) × IsUnwritten old new had told
  pub written : (m : Message) → given ≡ Some m
      → WritesUpTo most_bytes (message_bytes m) (message_bytes m) (length (message_bytes m)) old new had told result
