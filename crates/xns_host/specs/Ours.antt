-- Which packets are a host's.
use Rattle.std.specs.Prelude.{◌≡◌, ◌≢◌, ◌⊎◌, ℕ, List, true, Some, None, Ok, slice_get}
use Rattle.xns_idp.specs.Packet.{PacketModel, broadcast}
use Rattle.xns_idp.specs.Reading.{packet_of}
use Rattle.xns_idp.specs.declared.packet_type.TheConstants.{ERROR, SEQUENCED_PACKET}
use Rattle.xns_small.specs.Echo.{IsAnswered}
use Rattle.xns_spp.specs.Ends.{is_ours_at}
use Rattle.xns_spp.specs.Held.{StandsFor}
use Rattle.xns_spp.specs.Packet.{SppPacketModel, opener_of, spp_packet_of}
use Rattle.xns_spp.specs.State.{State}
use Rattle.xns_host.specs.Hosting.{IsThere, address_in}
use Rattle.xns_host.specs.Quotes.{is_sent_by, quoted_packet}
use Rattle.xns_host.specs.Register.{owner_in}
use Rattle.xns_host.specs.Registered.{named_in}
use Rattle.xns_host.specs.Services.{has_called, programs_at}
use Rattle.xns_host.specs.Strays.{echo_socket}
use Rattle.xns_host.specs.Whole.{Whole}
use Rattle.xns_host.specs.declared.guest.Guest.{Guest}
use Rattle.xns_host.specs.declared.quote.Quote.{Quote}
use Rattle.xns_host.specs.declared.services.Services.{Services}

-- the packet is one of this connection
abbrev pub IsOfGuest : SppPacketModel → Guest → Type 0
IsOfGuest p g = (s : State) → StandsFor g.connection.conversation.endpoint s → is_ours_at s.ends p ≡ true

-- the quoted packet went from this connection to its peer, lately
abbrev pub IsSentBy : Quote → Guest → Type 0
IsSentBy q g = (s : State) → StandsFor g.connection.conversation.endpoint s → is_sent_by g s q ≡ true

-- a packet to this host names a connection of it, and is one of that
pub record Names (w : Whole) (p : SppPacketModel) : Type 0 where
  pub here : p.target.host ≡ w.host
  pub number : ℕ
  pub named : named_in w.register p ≡ Some number
  pub there : IsThere (IsOfGuest p) (slice_get w.places.guests number)

-- a packet to this host opens a connection where there is room: its source is one host, its sender has an identifier, no connection is
-- named by the packet, and the socket that it goes to is served
pub record IsOpener (w : Whole) (p : SppPacketModel) : Type 0 where
  pub here : p.target.host ≡ w.host
  pub one_host : p.source.host ≢ broadcast
  pub unnamed : named_in w.register p ≡ None
  pub opener : opener_of p ≢ None
  pub served : programs_at w.services.programs p.target.socket ≢ None

-- the host has this socket: it is served, or a connection was made from it
abbrev pub HasSocket : Services → ℕ → Type 0
HasSocket services socket = (programs_at services.programs socket ≢ None) ⊎ (has_called services.callers.items socket ≡ true)

-- a sequenced packet of one host is to a socket that this host has
pub record IsToSocket (w : Whole) (p : PacketModel) : Type 0 where
  pub kind : p.kind ≡ SEQUENCED_PACKET
  pub here : p.target.host ≡ w.host
  pub one_host : p.source.host ≢ broadcast
  pub socket : HasSocket w.services p.target.socket

-- an Error packet to this host, whose number says that nobody hears it, quotes a packet that went out lately of the connection with the
-- identifier of its sender
pub record QuotesOurs (w : Whole) (p : PacketModel) : Type 0 where
  pub kind : p.kind ≡ ERROR
  pub here : p.target.host ≡ w.host
  pub quote : Quote
  pub quoted : quoted_packet p.body ≡ Some quote
  pub number : ℕ
  pub owner : owner_in w.register.identifiers quote.source_id ≡ Some number
  pub there : IsThere (IsSentBy quote) (slice_get w.places.guests number)

-- a packet of one host asks this host for an Echo reply, which it gives by its settings
pub record AsksEcho (w : Whole) (p : PacketModel) : Type 0 where
  pub answers : w.settings.answers_echo ≡ true
  pub one_host : p.source.host ≢ broadcast
  pub request : IsAnswered (address_in w.network w.host echo_socket) p

-- bytes are a packet that is the host's: an Echo request to it, an Error packet about a packet of it, one that names a connection, or one
-- that opens one
pub data IsOurs (w : Whole) (bytes : List ℕ) : Type 0 where
  asks : (p : PacketModel) (taken : ℕ) → packet_of bytes ≡ Ok (p, taken) → AsksEcho w p → IsOurs w bytes
  quotes : (p : PacketModel) (taken : ℕ) → packet_of bytes ≡ Ok (p, taken) → QuotesOurs w p → IsOurs w bytes
  names : (p : SppPacketModel) → spp_packet_of bytes ≡ Ok p → Names w p → IsOurs w bytes
  opens : (p : SppPacketModel) → spp_packet_of bytes ≡ Ok p → IsOpener w p → IsOurs w bytes
