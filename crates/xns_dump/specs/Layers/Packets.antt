-- The line of a packet's header, and why bytes are no packet.
use Rattle.std.specs.Prelude.{ℕ, ◌+◌, if◌then◌else◌, List, ◌++◌, length, codes}
use Rattle.std.specs.Fmt.{decimal}
use Rattle.xns_idp.specs.Packet.{PacketModel}
use Rattle.xns_idp.specs.declared.fault.IdpFault.{IdpFault}
use Rattle.xns_idp.specs.declared.fault.IdpFault.TheVariants.{Short, LengthSmall, LengthLarge, Cut, BadSum}
use Rattle.xns_dump.specs.Layers.Text.{address_text, line_of}
use Rattle.xns_lines.specs.Text.{hex_word}

-- ---- the header (XSIS 028112, Internet Datagram Protocol, Packet Format)

-- the checksum field of a packet, or that it has no checksum (XSIS 028112, Internet Datagram Protocol, Checksum)
unfoldable pub sum_text : PacketModel → ℕ → List ℕ
sum_text packet field = if packet.summed then hex_word field else codes "none"

-- the length field and the checksum field
unfoldable pub size_text : ℕ → PacketModel → List ℕ
size_text field packet = codes "length " ++ decimal (30 + length packet.body) ++ codes " sum " ++ sum_text packet field

-- the transport control and the packet type
unfoldable pub kind_text : PacketModel → List ℕ
kind_text packet = codes " control " ++ decimal packet.control ++ codes " type " ++ decimal packet.kind

-- the destination and the source (XSIS 028112, Internet Datagram Protocol, Network Addresses)
unfoldable pub route_text : PacketModel → List ℕ
route_text packet = codes " to " ++ address_text packet.target ++ codes " from " ++ address_text packet.source

-- the fields of a header
unfoldable pub idp_line : ℕ → ℕ → PacketModel → List ℕ
idp_line n field packet = decimal n ++ codes " idp " ++ size_text field packet ++ kind_text packet ++ route_text packet ++ codes "\n"

-- why the bytes are no packet
unfoldable pub fault_text : IdpFault → List ℕ
fault_text (Short have) = codes "Short " ++ decimal have
fault_text (LengthSmall size) = codes "LengthSmall " ++ decimal size
fault_text (LengthLarge size) = codes "LengthLarge " ++ decimal size
fault_text (Cut needed have) = codes "Cut " ++ decimal needed ++ codes " " ++ decimal have
fault_text (BadSum found computed) = codes "BadSum " ++ hex_word found ++ codes " " ++ hex_word computed

abbrev pub idp_refusal_text : IdpFault → List ℕ
idp_refusal_text fault = codes " idp refused " ++ fault_text fault

abbrev pub idp_refusal : ℕ → IdpFault → List ℕ
idp_refusal n fault = line_of n (idp_refusal_text fault)
