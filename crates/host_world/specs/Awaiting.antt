-- How two hosts come to a meeting: one connects, and the other makes its connection once a packet comes.
use Rattle.std.specs.Prelude.{◌≡◌, ◌⊎◌, ℕ, List, [], None, Some, Ok}
use Rattle.courier_sessions.specs.declared.program.Program.{Program}
use Rattle.item_world.specs.declared.side.Side.TheVariants.{A, B}
use Rattle.xns_idp.specs.declared.address.Address.{Address}
use Rattle.xns_spp.specs.Packet.{SppPacketModel, spp_packet_of}
use Rattle.xns_spp.specs.State.{initiator_state}
use Rattle.xns_connection.specs.Story.{new_story}
use Rattle.xns_connection.specs.Telling.{Tells}
use Rattle.xns_connection.specs.declared.conversation.Conversation.{Conversation}
use Rattle.xns_host.specs.Hosting.{HasNoRoom, IsAllInUse, address_in}
use Rattle.xns_host.specs.Services.{programs_at}
use Rattle.xns_host.specs.Strays.{lost_stray}
use Rattle.xns_host.specs.declared.host.Host.{Host}
use Rattle.host_world.specs.Following.{Has, HostsStandFor}
use Rattle.host_world.specs.Meeting.{Meeting, at, new_meeting, new_party}
use Rattle.host_world.specs.Meets.{Meets}
use Rattle.host_world.specs.Pairing.{DoesAt, MayCome, with_no_more}
use Rattle.host_world.specs.Station.{IsStation, called_end}
use Rattle.host_world.specs.declared.station.Station.{Station}

-- the connection was made at b for the peer at a, which can call these programs, and nothing has happened at it
pub record IsJustMade (a b : Station) (programs : List Program) (d : Conversation) : Type 0 where
  pub tells : Tells d (new_story (Some programs) (called_end b a))
  pub silent : d.packets.items ≡ []

-- the connection of the meeting that calls is the one that the host has at this number; the one that is called is d, to which nothing has
-- come
pub record HostAwaits (h : Host) (here : ℕ) (a b : Station) (programs : List Program) (d : Conversation) (m : Meeting) : Type 0 where
  pub station : IsStation a
  pub peer : IsStation b
  pub meets : Meets a b programs m
  pub calls : Has h here (at m A).conversation
  pub new : at m B ≡ new_party d (Some programs) (called_end b a)

-- at this number the host has a new connection from this address of its own to the peer's, of which nothing has gone out: whatever connection
-- will be made for it at the peer's address, the two are in a meeting in which nothing has happened
pub record HasNewConnection (h : Host) (here : ℕ) (own peer : Address) : Type 0 where
  pub station : Station
  pub is : IsStation station
  pub address : station.address ≡ own
  pub made : Conversation
  pub there : Has h here made
  pub tells : Tells made (new_story None (initiator_state own station.id peer station.terms.window station.terms.backlog))
  pub silent : made.packets.items ≡ []
  pub awaits : (b : Station) (programs : List Program) (d : Conversation) → b.address ≡ peer → IsJustMade station b programs d
      → HostAwaits h here station b programs d (new_meeting station b programs made d)

-- if the bytes are a packet, it says that it comes from the connection at this station
abbrev pub IsSentFrom : Station → List ℕ → Type 0
IsSentFrom a bytes = (p : SppPacketModel) → spp_packet_of bytes ≡ Ok p → (p.source ≡ a.address) × (p.header.source_id ≡ a.id)

-- host k can make no connection: it has no room, or no identifier; or l has noted that memory was refused, for this packet or one before
abbrev pub CannotOpen : (k l : Host) → Type 0
CannotOpen k l = HasNoRoom k.guests.items ⊎ (IsAllInUse k.register.identifiers ⊎ (l.strays ≡ lost_stray k.strays))

-- Host k made a connection for the peer at a, by a packet to a socket that it serves, and host l has it at this number after the packet came
-- to it. With whatever host awaits that connection it stands for the meeting in which the packet came, by at most one step, if the packet may
-- come to the connection.
pub record HasOpened (k l : Host) (there : ℕ) (bytes : List ℕ) (a : Station) : Type 0 where
  pub packet : SppPacketModel
  pub is : spp_packet_of bytes ≡ Ok packet
  pub programs : List Program
  pub served : programs_at k.services.programs packet.target.socket ≡ Some programs
  pub station : Station
  pub address : station.address ≡ address_in k.network k.host packet.target.socket
  pub made : Conversation
  pub new : IsJustMade a station programs made
  pub meets : (h : Host) (here : ℕ) (m : Meeting) → HostAwaits h here a station programs made m → MayCome m B bytes
      → (n : Meeting) × HostsStandFor h l here there a station programs n × DoesAt 1 m n B with_no_more []
