-- What comes of a packet at a host.
use Rattle.std.specs.Prelude.{◌≡◌, ◌⊎◌, ℕ, List, Bool, true, false, Some, Ok, slice_get}
use Rattle.courier_sessions.specs.declared.program.Program.{Program}
use Rattle.xns_idp.specs.Packet.{PacketModel}
use Rattle.xns_idp.specs.Reading.{packet_of}
use Rattle.xns_idp.specs.declared.address.Address.{Address}
use Rattle.xns_small.specs.Echo.{echo_reply}
use Rattle.xns_small.specs.declared.error_number.TheConstants.{NO_RESOURCES, NO_SUCH_SOCKET}
use Rattle.xns_spp.specs.Packet.{SppPacketModel, opener_of, spp_packet_of}
use Rattle.xns_host.specs.Hosting.{HasNoRoom, IsAllInUse, IsAnswering, IsPlaceForNew, address_in, confirms}
use Rattle.xns_host.specs.Identifiers.{StaysInOrder, TurnsOver}
use Rattle.xns_host.specs.Ours.{AsksEcho, IsOpener, IsOurs, IsToSocket, Names, QuotesOurs}
use Rattle.xns_host.specs.Places.{Places, PlaceTurns, taken_by, vacated}
use Rattle.xns_host.specs.Services.{programs_at}
use Rattle.xns_host.specs.Strays.{HasComplained, MayHaveStray, StrayQueue, echo_socket, lost_stray, stray_of}
use Rattle.xns_host.specs.Went.{GuestHears, GuestUnserved}
use Rattle.xns_host.specs.Whole.{Whole}
use Rattle.xns_host.specs.declared.guest.Guest.{Guest}
use Rattle.xns_host.specs.declared.register.Register.{Register}

-- the peer with this identifier opened the connection with this number at this socket of ours, for these programs, in a place that was free
-- or whose connection gives way
pub record Seats (now way : ℕ) (w : Whole) (socket : ℕ) (peer : Address) (id : ℕ) (programs : List Program) (number : ℕ) (register : Register)
    (q : Places) : Type 0 where
  pub guest : Guest
  pub place : IsPlaceForNew w.places.guests number
  pub answering : IsAnswering w.settings w.register.identifiers (address_in w.network w.host socket) peer id way now programs guest
  pub there : slice_get q.guests number ≡ Some (Some guest)
  pub is : q ≡ taken_by (vacated w.places number) number guest
  pub identifier : ℕ
  pub turned : TurnsOver w.register.identifiers register.identifiers identifier

-- a packet opened a connection, which has heard it; where no place is free and no connection gives way, or each identifier is in use, the host
-- complains that it has no resources; where memory was refused, that is noted, and the packet is as if lost
pub data Opens (now way : ℕ) (bytes : List ℕ) (p : SppPacketModel) (w : Whole) : Register → StrayQueue → Places → Type 0 where
  opened : {register : Register} {mid new : Places} (number id : ℕ) (peer : Address) (programs : List Program) → opener_of p ≡ Some (peer, id)
      → programs_at w.services.programs p.target.socket ≡ Some programs → Seats now way w p.target.socket peer id programs number register mid
      → PlaceTurns (GuestHears now bytes false) number mid new → Opens now way bytes p w register w.strays new
  full : {register : Register} {strays : StrayQueue} → HasNoRoom w.places.guests ⊎ IsAllInUse w.register.identifiers
      → StaysInOrder w.register.identifiers register.identifiers
      → HasComplained (address_in w.network w.host p.target.socket) NO_RESOURCES way bytes w.strays strays
      → Opens now way bytes p w register strays w.places
  starved : {register : Register} → StaysInOrder w.register.identifiers register.identifiers
      → Opens now way bytes p w register (lost_stray w.strays) w.places

-- what comes of bytes: they are no packet of the host, and nothing changes; or an Echo request, and the reply waits,
-- where there is room; or an Error packet about a packet of ours; or they name a connection; or they open one
pub data Comes (now way : ℕ) (bytes : List ℕ) (w : Whole) : Bool → Whole → Type 0 where
  foreign : (IsOurs w bytes → ⊥) → Comes now way bytes w false w
  echoes : (p : PacketModel) (taken : ℕ) {strays : StrayQueue} → packet_of bytes ≡ Ok (p, taken) → AsksEcho w p
      → MayHaveStray w.strays strays (stray_of way (echo_reply (address_in w.network w.host echo_socket) p))
      → Comes now way bytes w true (record w { strays = strays })
  refuses : (p : PacketModel) (taken : ℕ) {q : Places} → packet_of bytes ≡ Ok (p, taken) → (quotes : QuotesOurs w p)
      → PlaceTurns (GuestUnserved now quotes.quote.error) quotes.number w.places q → Comes now way bytes w true (record w { places = q })
  hears : (p : SppPacketModel) {q : Places} → spp_packet_of bytes ≡ Ok p → (names : Names w p)
      → PlaceTurns (GuestHears now bytes (confirms p)) names.number w.places q → Comes now way bytes w true (record w { places = q })
  opens : (p : SppPacketModel) {register : Register} {strays : StrayQueue} {q : Places} → spp_packet_of bytes ≡ Ok p → IsOpener w p
      → Opens now way bytes p w register strays q → Comes now way bytes w true (record w { register = register; strays = strays; places = q })

-- bytes came to the host: they are the host's. Or they are not, and nothing changes, but that the host complains of a sequenced packet
-- to a socket that it has, which nobody hears there
pub data Arrives (now way : ℕ) (bytes : List ℕ) (w : Whole) : Bool → Whole → Type 0 where
  meant : {v : Whole} → Comes now way bytes w true v → Arrives now way bytes w true v
  unheard : (p : PacketModel) (taken : ℕ) {strays : StrayQueue} → Comes now way bytes w false w → packet_of bytes ≡ Ok (p, taken)
      → IsToSocket w p → HasComplained (address_in w.network w.host p.target.socket) NO_SUCH_SOCKET way bytes w.strays strays
      → Arrives now way bytes w true (record w { strays = strays })
  unmeant : Comes now way bytes w false w → ((p : PacketModel) (taken : ℕ) → packet_of bytes ≡ Ok (p, taken) → IsToSocket w p → ⊥)
      → Arrives now way bytes w false w
