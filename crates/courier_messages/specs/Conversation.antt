-- What a peer has said by its items, however they are cut (XSIS 038112, Courier, Message stream).
use Rattle.std.specs.Prelude.{ℕ, ◌+◌, ◌*◌, List, [], ◌∷◌, ◌++◌, length, ◌||◌, nat_lt, if◌then◌else◌, Option, Some, None, option_map, Result}
use Rattle.std.specs.Prelude.{Ok, Err}
use Rattle.xns_spp.specs.declared.item.Item.{Item}
use Rattle.courier_messages.specs.declared.fault.MessageFault.{MessageFault}
use Rattle.courier_messages.specs.declared.fault.MessageFault.TheVariants.{TooLong}
use Rattle.courier_messages.specs.declared.fault.SessionFault.{SessionFault}
use Rattle.courier_messages.specs.declared.fault.SessionFault.TheVariants.{NoCommonVersion, BadVersions, BadMessage, Stream}
use Rattle.courier_messages.specs.declared.message.Message.{Message}
use Rattle.courier_messages.specs.Message.{most_bytes, message_of}
use Rattle.courier_messages.specs.Text.{Sign, byte, mark, foreign, written, pieces_behind, rest_behind, foreign_in}

-- the version range

-- the version of Courier that both sides speak
abbrev pub version : ℕ
version = 3

-- how many bytes the version range has
abbrev pub range_bytes : ℕ
range_bytes = 4

-- the text behind the version range, or why there is none: its bytes so far, or a fault
pub data VersionRange : Type 0 where
  unread : List ℕ → VersionRange
  refused : SessionFault → VersionRange
  agreed : List Sign → VersionRange

-- why versions from low to high are refused
abbrev pub versions_fault : ℕ → ℕ → Option SessionFault
versions_fault low high =
    if nat_lt high low then Some BadVersions
    else if nat_lt version low || nat_lt high version then Some NoCommonVersion
    else None

abbrev pub agreed_unless : Option SessionFault → List Sign → VersionRange
agreed_unless (Some e) text = refused e
agreed_unless None text = agreed text

-- the text behind a version range from low to high, or the fault of the range
abbrev pub agreed_range : ℕ → ℕ → List Sign → VersionRange
agreed_range low high text = agreed_unless (versions_fault low high) text

-- fewer than four bytes of a version range, and the text behind them
abbrev pub too_few : List ℕ → List Sign → VersionRange
too_few bytes [] = unread bytes
too_few bytes (byte b ∷ text) = unread (bytes ++ b ∷ [])
too_few bytes (mark ∷ text) = refused BadVersions
too_few bytes (foreign kind ∷ text) = refused (Stream kind)

-- the first four bytes are the peer's lowest and highest version
abbrev pub version_range : List Sign → VersionRange
version_range (byte a ∷ byte b ∷ byte c ∷ byte d ∷ text) = agreed_range (a * 256 + b) (c * 256 + d) text
version_range (byte a ∷ byte b ∷ byte c ∷ text) = too_few (a ∷ b ∷ c ∷ []) text
version_range (byte a ∷ byte b ∷ text) = too_few (a ∷ b ∷ []) text
version_range (byte a ∷ text) = too_few (a ∷ []) text
version_range text = too_few [] text

-- a mark directly behind the range is dropped, once
abbrev pub without_mark : List Sign → List Sign
without_mark [] = []
without_mark (mark ∷ text) = text
without_mark (byte b ∷ text) = byte b ∷ text
without_mark (foreign kind ∷ text) = foreign kind ∷ text

-- the messages

-- the message that a piece says, or its fault; that a piece is too long comes before all other faults
unfoldable pub said_by : List ℕ → Result Message MessageFault
said_by piece = if nat_lt most_bytes (length piece) then Err TooLong else message_of piece

abbrev pub message_and : Result Message MessageFault → List Message → List Message
message_and (Ok m) more = m ∷ more
message_and (Err e) more = []

-- what the pieces say, up to the first that is no message
unfoldable pub messages_in : List (List ℕ) → List Message
messages_in [] = []
messages_in (piece ∷ more) = message_and (said_by piece) (messages_in more)

abbrev pub first_of : Result Message MessageFault → Option SessionFault → Option SessionFault
first_of (Ok m) later = later
first_of (Err e) later = Some (BadMessage e)

-- why the first piece that is no message is none, or else the fault behind the pieces
unfoldable pub fault_in : List (List ℕ) → Option SessionFault → Option SessionFault
fault_in [] later = later
fault_in (piece ∷ more) later = first_of (said_by piece) (fault_in more later)

-- the fault behind the last mark, if there is one: too many bytes, or else an item of another datastream
unfoldable pub fault_of_rest : List ℕ → Option ℕ → Option SessionFault
fault_of_rest bytes other = if nat_lt most_bytes (length bytes) then Some (BadMessage TooLong) else option_map Stream other

-- the first fault of the text behind the bytes begun
abbrev pub fault_behind : List ℕ → List Sign → Option SessionFault
fault_behind begun text = fault_in (pieces_behind begun text) (fault_of_rest (rest_behind begun text) (foreign_in text))

abbrev pub messages_of : VersionRange → List Message
messages_of (unread bytes) = []
messages_of (refused e) = []
messages_of (agreed text) = messages_in (pieces_behind [] (without_mark text))

abbrev pub fault_of : VersionRange → Option SessionFault
fault_of (unread bytes) = None
fault_of (refused e) = Some e
fault_of (agreed text) = fault_behind [] (without_mark text)

-- the messages of a conversation, up to its first fault
unfoldable pub conversation : List Item → List Message
conversation items = messages_of (version_range (written items))

-- the first fault of a conversation
unfoldable pub conversation_fault : List Item → Option SessionFault
conversation_fault items = fault_of (version_range (written items))

-- what a session keeps

-- What a session keeps of the text. `opening`: the bytes of a version range that is not read yet. `fresh`: no bytes,
-- since nothing stands behind the version range. `inside`: the bytes behind the last mark, or behind the range before
-- any mark.
pub data Phase : Type 0 where
  opening : List ℕ → Phase
  fresh : Phase
  inside : List ℕ → Phase

abbrev pub phase_behind : List Sign → Phase
phase_behind [] = fresh
phase_behind (s ∷ text) = inside (rest_behind [] (without_mark (s ∷ text)))

abbrev pub phase_of : VersionRange → Phase
phase_of (unread bytes) = opening bytes
phase_of (refused e) = fresh
phase_of (agreed text) = phase_behind text

abbrev pub or_fault : Option SessionFault → Phase → Result Phase SessionFault
or_fault (Some e) p = Err e
or_fault None p = Ok p

-- the phase at the end of a conversation, or its first fault
unfoldable pub ending : List Item → Result Phase SessionFault
ending items = or_fault (conversation_fault items) (phase_of (version_range (written items)))
