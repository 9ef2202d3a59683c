-- A conversation sign by sign, as the code takes it: this project's account of the messages (XSIS 038112, Courier, Message
-- stream).
use Rattle.std.specs.Prelude.{ℕ, ◌+◌, ◌*◌, List, [], ◌∷◌, ◌++◌, length, ◌==◌, if◌then◌else◌, Option, Some, None, Result, Ok, Err}
use Rattle.courier_messages.specs.declared.fault.MessageFault.{MessageFault}
use Rattle.courier_messages.specs.declared.fault.MessageFault.TheVariants.{TooLong}
use Rattle.courier_messages.specs.declared.fault.SessionFault.{SessionFault}
use Rattle.courier_messages.specs.declared.fault.SessionFault.TheVariants.{BadVersions, BadMessage, Stream}
use Rattle.courier_messages.specs.declared.message.Message.{Message}
use Rattle.courier_messages.specs.Message.{most_bytes, message_of}
use Rattle.courier_messages.specs.Text.{Sign, byte, mark, foreign}
use Rattle.courier_messages.specs.Conversation.{versions_fault, Phase, opening, fresh, inside}

abbrev pub fresh_unless : Option SessionFault → Result Phase SessionFault
fresh_unless (Some e) = Err e
fresh_unless None = Ok fresh

-- the phase behind a version range from low to high, or the fault of the range
abbrev pub agreement : ℕ → ℕ → Result Phase SessionFault
agreement low high = fresh_unless (versions_fault low high)

abbrev pub opened : List ℕ → Result Phase SessionFault
opened (a ∷ b ∷ c ∷ d ∷ bytes) = agreement (a * 256 + b) (c * 256 + d)
opened bytes = Ok (opening bytes)

abbrev pub closed : Result Message MessageFault → Result Phase SessionFault
closed (Ok m) = Ok (inside [])
closed (Err e) = Err (BadMessage e)

-- the phase behind one more sign, or the fault that the sign brings
abbrev pub after_sign : Phase → Sign → Result Phase SessionFault
after_sign p (foreign kind) = Err (Stream kind)
after_sign (opening bytes) (byte b) = opened (bytes ++ b ∷ [])
after_sign (opening bytes) mark = Err BadVersions
after_sign fresh (byte b) = Ok (inside (b ∷ []))
after_sign fresh mark = Ok (inside [])
after_sign (inside bytes) (byte b) = if length bytes == most_bytes then Err (BadMessage TooLong) else Ok (inside (bytes ++ b ∷ []))
after_sign (inside bytes) mark = closed (message_of bytes)

abbrev pub good : Result Message MessageFault → List Message
good (Ok m) = m ∷ []
good (Err e) = []

-- the message that the sign ends
abbrev pub ended : Phase → Sign → List Message
ended (inside bytes) mark = good (message_of bytes)
ended p s = []

infixl 10 ◌then◌
abbrev pub ◌then◌ : {A B : Type 0} → Result A SessionFault → (A → Result B SessionFault) → Result B SessionFault
(Ok x) then f = f x
(Err e) then f = Err e

-- the phase that the signs lead to, or the first fault
unfoldable pub run : Phase → List Sign → Result Phase SessionFault
run p [] = Ok p
run p (s ∷ ss) = after_sign p s then λ q. run q ss

abbrev pub onwards : {A : Type 0} → Result Phase SessionFault → (Phase → List A) → List A
onwards (Ok p) f = f p
onwards (Err e) f = []

-- the messages that the signs end
unfoldable pub said : Phase → List Sign → List Message
said p [] = []
said p (s ∷ ss) = ended p s ++ onwards (after_sign p s) (λ q. said q ss)
