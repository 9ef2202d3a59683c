-- What follows of a host from what its calls are.
use Rattle.std.specs.Prelude.{◌≡◌, ◌<◌, ◌==◌, ◌||◌, ℕ, List, Bool, true, Some, None, Ok, Err, slice_get}
use Rattle.xns_idp.specs.Packet.{PacketModel}
use Rattle.xns_idp.specs.Reading.{packet_of}
use Rattle.xns_idp.specs.declared.address.Address.{Address}
use Rattle.xns_small.specs.declared.error_number.TheConstants.{NO_SUCH_SOCKET}
use Rattle.xns_spp.specs.Packet.{SppPacketModel, spp_packet_of}
use Rattle.xns_agenda.specs.Clock.{time_at}
use Rattle.xns_agenda.specs.Waiting.{later}
use Rattle.xns_host.specs.Hosting.{HasNoEvent, HasNoPacket, IsPacketOf, IsRefusedBy, address_in, confirms}
use Rattle.xns_host.specs.Ours.{IsOurs, IsToSocket}
use Rattle.xns_host.specs.Places.{PlaceTurns}
use Rattle.xns_host.specs.Services.{has_called, sockets}
use Rattle.xns_host.specs.Strays.{HasComplained}
use Rattle.xns_host.specs.Turn.{ConnectsTo, GivesOut, TakesIn, TellsNext, places_of, whole_of}
use Rattle.xns_host.specs.Went.{GuestHears, GuestUnserved}
use Rattle.xns_host.specs.Whole.{Whole}
use Rattle.xns_host.specs.declared.guest.Guest.{Guest}
use Rattle.xns_host.specs.declared.host.Host.{Host}
use Rattle.xns_host.specs.declared.host_fault.HostFault.TheVariants.{NoMemory}

-- where no event is told, no connection has anything to tell
abbrev pub ASilentHostHasNothingToTell : Type 0
ASilentHostHasNothingToTell = (old new : Host) → TellsNext None old new → HasNoEvent old.guests.items

-- where no packet goes out, none of a connection may be to go out
abbrev pub AnIdleHostHasNoPacket : Type 0
AnIdleHostHasNoPacket = (now : ℕ) (old new : Host) → GivesOut now (Ok None) old new → HasNoPacket new.guests.items

-- where memory was refused for a packet, those of connections are asked for again the first wait later
abbrev pub AStarvedHostRests : Type 0
AStarvedHostRests = (now : ℕ) (old new : Host) → GivesOut now (Err NoMemory) old new
    → new.agenda.short ≡ Some (later (time_at old.clock now) old.settings.first_wait)

-- a packet that is one of a connection is the host's, and that connection has heard it
abbrev pub AConnectionHearsItsPackets : Type 0
AConnectionHearsItsPackets = (now way number : ℕ) (bytes : List ℕ) (result : Bool) (old new : Host) (p : SppPacketModel) (g : Guest)
    → TakesIn now way bytes result old new → spp_packet_of bytes ≡ Ok p → IsPacketOf old.host p g
    → slice_get old.guests.items number ≡ Some (Some g)
    → (result ≡ true) × PlaceTurns (GuestHears (time_at old.clock now) bytes (confirms p)) number (places_of old) (places_of new)

-- a packet that is a host's is so at each network that the host is told to be at
abbrev pub NoNetworkDecides : Type 0
NoNetworkDecides = (w : Whole) (network : ℕ) (bytes : List ℕ) → IsOurs w bytes → IsOurs (record w { network = network }) bytes

-- an Error packet that quotes what a connection sent lately is the host's, and that connection is not served, if the number says that nobody
-- hears it
abbrev pub WhoIsQuotedIsNotServed : Type 0
WhoIsQuotedIsNotServed = (now way number taken : ℕ) (bytes : List ℕ) (result : Bool) (old new : Host) (p : PacketModel) (g : Guest)
    → TakesIn now way bytes result old new → packet_of bytes ≡ Ok (p, taken) → (by : IsRefusedBy old.host p g)
    → slice_get old.guests.items number ≡ Some (Some g)
    → (result ≡ true) × PlaceTurns (GuestUnserved (time_at old.clock now) by.quote.error) number (places_of old) (places_of new)

-- of a sequenced packet that is not the host's, to a socket that the host has, it complains
abbrev pub OfWhatNobodyHearsItComplains : Type 0
OfWhatNobodyHearsItComplains = (now way taken : ℕ) (bytes : List ℕ) (result : Bool) (old new : Host) (p : PacketModel)
    → TakesIn now way bytes result old new → packet_of bytes ≡ Ok (p, taken) → IsToSocket (whole_of old) p → (IsOurs (whole_of old) bytes → ⊥)
    → (result ≡ true) × HasComplained (address_in old.network old.host p.target.socket) NO_SUCH_SOCKET way bytes old.strays new.strays

-- once a connection was made from a socket, the host has that socket, and of each other it knows what it knew
abbrev pub AHostKnowsWhereItCalledFrom : Type 0
AHostKnowsWhereItCalledFrom = (now way socket number other : ℕ) (peer : Address) (old new : Host) → socket < sockets
    → ConnectsTo now way socket peer (Ok number) old new
    → has_called new.services.callers.items other ≡ (other == socket) || has_called old.services.callers.items other
