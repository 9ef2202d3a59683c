-- The flows of an input, and the number of each item in its flow.
pub mod Numbers
pub mod Places
use Rattle.std.specs.Prelude.{ℕ, ◌==◌, ◌&&◌, Bool, List, [], ◌∷◌, Option, Some, None, if◌then◌else◌}
use Rattle.std.specs.Str.{bytes_eq}
use Rattle.std.specs.Option.{unwrap_or}
use Rattle.xns_idp.specs.Packet.{PacketModel}
use Rattle.xns_spp.specs.Nearest.{nearest}
use Rattle.xns_spp.specs.declared.header.Header.{Header}
use Rattle.xns_dump.specs.declared.flows.flow.Flow.{Flow}
use Rattle.xns_dump.specs.declared.flows.place.Place.{Place}

-- an end of a flow is a host, a socket and a connection identifier (XSIS 028112, Sequenced Packet Protocol, Connection Identifiers)
abbrev pub is_place : Place → Place → Bool
is_place a b = bytes_eq a.host b.host && (a.socket == b.socket && a.identifier == b.identifier)

-- packets with the same two ends are of one flow
abbrev pub is_flow : Flow → Flow → Bool
is_flow a b = is_place a.source b.source && is_place a.target b.target

-- the flow of a packet: its two ends; network numbers do not count
abbrev pub flow_of : PacketModel → Header → Flow
flow_of packet f = record {
  source = record { host = packet.source.host; socket = packet.source.socket; identifier = f.source_id };
  target = record { host = packet.target.host; socket = packet.target.socket; identifier = f.target_id };
}

-- a data packet is its flow and its sequence field
abbrev pub DataPacket : Type 0
DataPacket = Flow × ℕ

abbrev pub with_field : Bool → ℕ → List ℕ → List ℕ
with_field p field fields = if p then field ∷ fields else fields

-- the sequence fields of a flow, in order
abbrev pub fields_of : Flow → List DataPacket → List ℕ
fields_of flow [] = []
fields_of flow (packet ∷ packets) = with_field (is_flow packet.0 flow) packet.1 (fields_of flow packets)

-- the number of an item: its field, read near the number of the item before it in the flow; the field itself where no item is before
-- it, or where the number would be below 0 (XSIS 028112, Sequenced Packet Protocol, Sequence Number)
abbrev pub number_after : Option ℕ → ℕ → ℕ
number_after None field = field
number_after (Some last) field = unwrap_or (nearest last field) field

abbrev pub number_from : Option ℕ → List ℕ → Option ℕ
number_from last [] = last
number_from last (field ∷ fields) = number_from (Some (number_after last field)) fields

-- the number of the last item of a flow with these sequence fields
abbrev pub last_number : List ℕ → Option ℕ
last_number fields = number_from None fields

-- the number of a data packet's item, behind the data packets before it in the input
abbrev pub item_number : List DataPacket → DataPacket → ℕ
item_number earlier packet = number_after (last_number (fields_of packet.0 earlier)) packet.1
