-- The lines of the output.
use Rattle.std.specs.Prelude.{ℕ, ◌-◌, Bool, if◌then◌else◌, List, [], ◌++◌, codes, Option, Some, None}
use Rattle.std.specs.Fmt.{decimal}
use Rattle.courier_messages.specs.declared.fault.MessageFault.TheVariants.{OddLength, ShortMessage, UnknownKind, TooLong}
use Rattle.courier_messages.specs.declared.fault.SessionFault.{SessionFault}
use Rattle.courier_messages.specs.declared.fault.SessionFault.TheVariants.{NoCommonVersion, BadVersions, BadMessage}
use Rattle.xns_idp.specs.Packet.{PacketModel}
use Rattle.xns_idp.specs.declared.address.Address.{Address}
use Rattle.xns_spp.specs.declared.header.Header.{Header}
use Rattle.xns_lines.specs.Text.{hex_word, words_text}
use Rattle.xns_dump.specs.Layers.Text.{address_text}
use Rattle.xns_calls.specs.Naming.{ShownModel, unread_text}
use Rattle.xns_calls.specs.TimeTexts.{time_text, took_text}
use Rattle.xns_calls.specs.declared.heading.Heading.{Heading}
use Rattle.xns_calls.specs.declared.origin.ShownTime.{ShownTime}
use Rattle.xns_calls.specs.declared.waiting.Waiting.{Waiting}

-- a flow's letter in its connection
abbrev pub letter : Bool → List ℕ
letter is_behind = if is_behind then codes "b" else codes "a"

-- the time of the frame, its number or that of the line, and the name of the flow
unfoldable pub heading_text : Heading → List ℕ
heading_text heading = time_text heading.origin.time ++ decimal heading.origin.number ++ codes " " ++ decimal heading.connection
    ++ letter heading.is_behind

-- one end of a flow
unfoldable pub end_text : List ℕ → Address → ℕ → List ℕ
end_text name address identifier = name ++ address_text address ++ codes " id " ++ hex_word identifier

-- a flow begins
unfoldable pub flow_line : Heading → PacketModel → Header → List ℕ
flow_line heading packet f =
    heading_text heading ++ end_text (codes " flow to ") packet.target f.target_id ++ end_text (codes " from ") packet.source f.source_id
    ++ codes "\n"

-- the items from the first number up to that before the second had not come by then
unfoldable pub missing_line : Heading → ℕ → ℕ → List ℕ
missing_line heading first behind = heading_text heading ++ (codes " missing " ++ decimal first) ++ (codes " to " ++ decimal (behind - 1))
    ++ codes "\n"

-- 64 repeats of the flow came in a row
unfoldable pub repeats_line : Heading → List ℕ
repeats_line heading = heading_text heading ++ codes " repeats\n"

-- words behind what they are
abbrev pub words_behind : List ℕ → List ℕ → List ℕ
words_behind name words = name ++ words_text words

-- the front of a call
unfoldable pub call_front : Heading → ℕ → List ℕ
call_front heading transaction = heading_text heading ++ (codes " call " ++ decimal transaction)

-- behind what a call says: why it is not named
unfoldable pub call_end : ShownModel → List ℕ
call_end shown = unread_text shown ++ codes "\n"

-- the number of the line or frame of a call, or a dash
abbrev pub line_or_dash : Option Waiting → List ℕ
line_or_dash (Some waiting) = decimal waiting.number
line_or_dash None = codes "-"

-- the front of an answer
unfoldable pub answer_front : Heading → List ℕ → ℕ → Option Waiting → List ℕ
answer_front heading name transaction of = heading_text heading ++ (name ++ decimal transaction) ++ codes " of " ++ line_or_dash of

-- behind what an answer says: how long its call took, and why it is not named
unfoldable pub answer_end : Option Waiting → ShownTime → ShownModel → List ℕ
answer_end of time shown = took_text of time ++ unread_text shown ++ codes "\n"

-- why what was said is no message or no version range; no other fault comes of items of datastream 0
unfoldable pub reason_text : SessionFault → List ℕ
reason_text BadVersions = codes "BadVersions"
reason_text NoCommonVersion = codes "NoCommonVersion"
reason_text (BadMessage OddLength) = codes "OddLength"
reason_text (BadMessage ShortMessage) = codes "ShortMessage"
reason_text (BadMessage (UnknownKind kind)) = codes "UnknownKind " ++ decimal kind
reason_text (BadMessage TooLong) = codes "TooLong"
reason_text _ = []

unfoldable pub refused_line : Heading → SessionFault → List ℕ
refused_line heading fault = heading_text heading ++ codes " refused " ++ reason_text fault ++ codes "\n"
