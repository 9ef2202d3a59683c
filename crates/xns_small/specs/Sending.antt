-- The packets that this crate makes (XSIS 028112, Internet Datagram Protocol, Packet Format). That they are summed is this
-- project's rule.
use Rattle.std.specs.Prelude.{ℕ, List}
use Rattle.xns_idp.specs.Packet.{new_packet, packet_spelling}
use Rattle.xns_idp.specs.declared.address.Address.{Address}

-- the bytes of a packet of this type from `source` to `target`: it is summed, and its transport control is 0
abbrev pub sent_packet : ℕ → Address → Address → List ℕ → List ℕ
sent_packet kind source target body = packet_spelling (new_packet kind source target body)
