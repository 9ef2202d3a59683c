-- The lines of sequenced packets.
use Rattle.std.specs.Prelude.{ℕ, ◌==◌, not, if◌then◌else◌, List, [], ◌∷◌, ◌++◌, codes, Option, Some, None}
use Rattle.std.specs.Fmt.{decimal}
use Rattle.hex.specs.Hex.{encode_lower}
use Rattle.xns_idp.specs.Packet.{PacketModel}
use Rattle.xns_spp.specs.Header.{brings_item, has_bit, is_system, message_end_bit}
use Rattle.xns_spp.specs.declared.header.Header.{Header}
use Rattle.xns_spp.specs.declared.spp_fault.SppFault.{SppFault}
use Rattle.xns_spp.specs.declared.spp_fault.SppFault.TheVariants.{Short}
use Rattle.xns_small.specs.declared.fault.SmallFault.TheVariants as small
use Rattle.xns_dump.specs.Flows.{DataPacket, flow_of}
use Rattle.xns_dump.specs.Layers.Courier.{courier_text}
use Rattle.xns_dump.specs.Layers.Small.{inner_refusal_text}
use Rattle.xns_dump.specs.Layers.Text.{data_line, line_of, words_line}
use Rattle.xns_lines.specs.Text.{hex_word}

-- the connection control, the datastream type, and the two connection identifiers
unfoldable pub connection_text : Header → List ℕ
connection_text f =
    encode_lower (f.control ∷ []) ++ codes " stream " ++ decimal f.stream ++ codes " source " ++ hex_word f.source_id ++ codes " target "
    ++ hex_word f.target_id

-- the sequence, acknowledge and allocation numbers (XSIS 028112, Sequenced Packet Protocol, Sequence Number, Acknowledge Number and
-- Allocation Number)
unfoldable pub sequence_text : Header → List ℕ
sequence_text f = codes " seq " ++ decimal f.sequence ++ codes " ack " ++ decimal f.acknowledge ++ codes " alloc " ++ decimal f.allocation

-- the fields of a header (XSIS 028112, Sequenced Packet Protocol)
unfoldable pub header_text : Header → List ℕ
header_text f = codes " spp control " ++ connection_text f ++ sequence_text f

-- the data packet that brings an item, if the packet is one: no system packet is, and none to an identifier that is not known
unfoldable pub item_of : PacketModel → Header → Option DataPacket
item_of packet f = if brings_item f then Some (flow_of packet f, f.sequence) else None

-- the number of an item (XSIS 028112, Sequenced Packet Protocol, Sequence Number)
abbrev pub number_text : ℕ → List ℕ
number_text number = codes " item " ++ decimal number

abbrev pub item_line : ℕ → ℕ → List ℕ
item_line n number = line_of n (number_text number)

-- the line of an item, if there is one
abbrev pub item_text : ℕ → (DataPacket → ℕ) → Option DataPacket → List ℕ
item_text n number None = []
item_text n number (Some packet) = item_line n (number packet)

-- what comes after the header: nothing of a system packet, else the data, which is Courier's where the datastream type is 0
-- (XSIS 038112, Courier, Block stream)
unfoldable pub content_text : ℕ → Header → List ℕ → List ℕ
content_text n f content =
    if is_system f then []
    else if not (f.stream == 0) then data_line n content
    else if has_bit f.control message_end_bit then courier_text n content
    else words_line n content

-- the body is shorter than a header
abbrev pub header_refusal_text : SppFault → List ℕ
header_refusal_text (Short have) = inner_refusal_text (small.Short have)

abbrev pub header_refusal : ℕ → SppFault → List ℕ
header_refusal n fault = line_of n (header_refusal_text fault)

-- the lines of a sequenced packet, where `number` gives the numbers of items
unfoldable pub sequenced_text : ℕ → (DataPacket → ℕ) → Option DataPacket → Header → List ℕ → List ℕ
sequenced_text n number item header content = line_of n (header_text header) ++ item_text n number item ++ content_text n header content
