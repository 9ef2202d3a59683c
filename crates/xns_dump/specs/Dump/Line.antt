-- What a line of the input says.
use Rattle.std.specs.Prelude.{ℕ, ◌==◌, ◌||◌, ◌&&◌, Bool, true, false, not, List, [], ◌∷◌, ◌++◌, codes, Option, None, Result, Ok, Err}
use Rattle.std.specs.List.{filter}
use Rattle.std.specs.Fmt.{decimal}
use Rattle.hex.specs.Hex.{decode_of}
use Rattle.hex.specs.declared.error.FromHexError.{FromHexError}
use Rattle.hex.specs.declared.error.FromHexError.TheVariants.{InvalidHexCharacter}
use Rattle.xns_dump.specs.Flows.{DataPacket}
use Rattle.xns_idp.specs.Packet.{PacketModel}
use Rattle.xns_idp.specs.Reading.{packet_of, word_at}
use Rattle.xns_idp.specs.declared.fault.IdpFault.{IdpFault}
use Rattle.xns_dump.specs.Layers.Body.{BodyModel, body_of, body_text, body_item, is_body_refused}
use Rattle.xns_dump.specs.Layers.Packets.{idp_line, idp_refusal}
use Rattle.xns_dump.specs.Layers.Text.{line_of}
use Rattle.xns_lines.specs.Lines.{without_return}

-- a space or a tab
abbrev pub is_space_or_tab : ℕ → Bool
is_space_or_tab byte = byte == 32 || byte == 9

-- the digits of a line
unfoldable pub digits_of : List ℕ → List ℕ
digits_of line = filter (λ byte. not (is_space_or_tab byte)) (without_return line)

-- why the digits spell no bytes: an odd number of them comes before a bad digit, whose place counts from 0
unfoldable pub hex_refusal_text : FromHexError → List ℕ
hex_refusal_text (InvalidHexCharacter digit place) = codes " hex refused Digit " ++ decimal place
hex_refusal_text _ = codes " hex refused OddLength"

abbrev pub hex_refusal : ℕ → FromHexError → List ℕ
hex_refusal n error = line_of n (hex_refusal_text error)

-- what a line says: why its digits spell no bytes, why the bytes are no packet, or the packet at their front, with its checksum field and
-- what its body says
pub data Said : Type 0 where
  no_bytes : FromHexError → Said
  no_packet : IdpFault → Said
  packet : ℕ → PacketModel → BodyModel → Said

abbrev pub packet_or_fault : List ℕ → Result (PacketModel × ℕ) IdpFault → Said
packet_or_fault bytes (Ok found) = Said.packet (word_at bytes 0) found.0 (body_of found.0)
packet_or_fault bytes (Err fault) = Said.no_packet fault

unfoldable pub said_by_bytes : List ℕ → Said
said_by_bytes bytes = packet_or_fault bytes (packet_of bytes)

abbrev pub bytes_or_fault : Result (List ℕ) FromHexError → Said
bytes_or_fault (Ok bytes) = said_by_bytes bytes
bytes_or_fault (Err error) = Said.no_bytes error

unfoldable pub said_by : List ℕ → Said
said_by line = bytes_or_fault (decode_of (digits_of line))

-- ---- the text of a line

abbrev pub said_text : ℕ → (DataPacket → ℕ) → Said → List ℕ
said_text n number (Said.no_bytes error) = hex_refusal n error
said_text n number (Said.no_packet fault) = idp_refusal n fault
said_text n number (Said.packet field p body) = idp_line n field p ++ body_text n number p body

abbrev pub is_said_refused : Said → Bool
is_said_refused (Said.packet field p body) = is_body_refused body
is_said_refused _ = true

abbrev pub said_item : Said → Option DataPacket
said_item (Said.packet field p body) = body_item p body
said_item _ = None

-- what line n prints, where `number` gives the numbers of items
abbrev pub text_of_line : ℕ → (DataPacket → ℕ) → List ℕ → List ℕ
text_of_line n number line = said_text n number (said_by line)

-- whether a line is refused
abbrev pub is_refused : List ℕ → Bool
is_refused line = is_said_refused (said_by line)

-- the data packet of a flow that a line spells, if it spells one
abbrev pub item_of_line : List ℕ → Option DataPacket
item_of_line line = said_item (said_by line)

-- the text begins with the word
abbrev pub begins_with : List ℕ → List ℕ → Bool
begins_with [] text = true
begins_with (letter ∷ word) [] = false
begins_with (letter ∷ word) (byte ∷ text) = letter == byte && begins_with word text

-- the word stands in the text
abbrev pub has_word : List ℕ → List ℕ → Bool
has_word word [] = begins_with word []
has_word word (byte ∷ text) = begins_with word (byte ∷ text) || has_word word text
