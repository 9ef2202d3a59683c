-- One step of a host: what was done at the connection with a number, and all that it leaves as it was.
use Rattle.std.specs.Prelude.{◌≡◌, ℕ, Bool, List, [], ◌∷◌, Option, Some, None, Result, Ok, Err, IfOk, OnOk, OnErr, slice_get, slice_set, true}
use Rattle.courier_sessions.specs.declared.program.Program.{Program}
use Rattle.xns_idp.specs.declared.address.Address.{Address}
use Rattle.xns_agenda.specs.Clock.{time_at, told_at, when_told}
use Rattle.xns_agenda.specs.Agenda.{noted}
use Rattle.xns_host.specs.Coming.{Arrives}
use Rattle.xns_connection.specs.Deeds.{Deed}
use Rattle.xns_host.specs.Hosting.{IsApart, IsConnected, IsFirstWant, IsPlaceForNew, address_in, facts_in}
use Rattle.xns_host.specs.Identifiers.{StaysInOrder, TurnsOver}
use Rattle.xns_host.specs.Places.{ActsAll, NextEvent, NextPacket, Places, PlaceTurns, places_with, taken_by, vacated}
use Rattle.xns_host.specs.Refusing.{wrong_service}
use Rattle.xns_host.specs.Registered.{HasLeft}
use Rattle.xns_host.specs.Services.{Serves, WantsMemory}
use Rattle.xns_host.specs.Standing.{StaysSetUpAt}
use Rattle.xns_host.specs.Went.{GuestTagged, Went}
use Rattle.xns_host.specs.Whole.{Whole}
use Rattle.xns_host.specs.declared.event.Event.{Event}
use Rattle.xns_host.specs.declared.guest.Guest.{Guest}
use Rattle.xns_host.specs.declared.host.Host.{Host}
use Rattle.xns_host.specs.declared.host_fault.HostFault.{HostFault}
use Rattle.xns_host.specs.declared.host_fault.HostFault.TheVariants.{NoMemory}
use Rattle.xns_host.specs.declared.outgoing.Outgoing.{Outgoing}
use Rattle.xns_host.specs.declared.services.Services.{Services}

-- ---- a host

abbrev pub places_of : Host → Places
places_of h = places_with h.guests.items h.agenda

abbrev pub whole_of : Host → Whole
whole_of h = record {
  network = h.network;
  host = h.host;
  settings = h.settings;
  services = h.services;
  register = h.register;
  strays = h.strays;
  places = places_of h;
}

-- ---- a turn

-- the host was told the time, and one deed was done at the connection with a number, and nothing else; where it was refused, nothing was done
pub record Turn (now number : ℕ) (deed : Deed) (result : Result (Unit {0}) HostFault) (old new : Host) : Type 0 where
  pub went : OnOk result (Went (time_at old.clock now) deed (slice_get old.guests.items number) (slice_get new.guests.items number))
  pub apart : IsApart old.guests.items new.guests.items number
  pub noted : OnOk result ((place : Option Guest) → slice_get new.guests.items number ≡ Some place
      → new.agenda ≡ noted old.agenda number (facts_in place))
  pub unchanged : OnErr result ((k : ℕ) → slice_get new.guests.items k ≡ slice_get old.guests.items k)
  pub unnoted : OnErr result (new.agenda ≡ old.agenda)
  pub rest : whole_of new ≡ record (whole_of old) { places = places_of new }
  pub clock : new.clock ≡ told_at old.clock now

-- ---- a packet that goes out

-- all that is due at this time was done; then the packet is the first of the stray replies, and where there is none, the next of a connection
pub record GivesOut (now : ℕ) (result : Result (Option Outgoing) HostFault) (old new : Host) : Type 0 where
  pub mid : Places
  pub acts : ActsAll (time_at old.clock now) (places_of old) mid
  pub stray : (o : Outgoing) (os : List Outgoing) → old.strays.waiting ≡ o ∷ os → (result ≡ Ok (Some o)) × (places_of new ≡ mid)
      × (new.strays ≡ record old.strays { waiting = os })
  pub next : old.strays.waiting ≡ [] → NextPacket (time_at old.clock now) old.settings.first_wait mid result (places_of new)
      × (new.strays ≡ old.strays)
  pub order : StaysInOrder old.register.identifiers new.register.identifiers
  pub set_up : StaysSetUpAt now old new

-- ---- when it wants to be asked

-- by the clock that was told last: when the first of what it wants is
pub record WakesAt (h : Host) (result : Option ℕ) : Type 0 where
  pub time : Option ℕ
  pub first : IsFirstWant h.strays.waiting h.guests.items h.agenda.short time
  pub is : result ≡ when_told h.clock time

-- ---- a packet that came

-- the host was told the time, and then the bytes came to it
pub record TakesIn (now way : ℕ) (bytes : List ℕ) (result : Bool) (old new : Host) : Type 0 where
  pub clock : new.clock ≡ told_at old.clock now
  pub comes : Arrives (time_at old.clock now) way bytes (whole_of old) result (whole_of new)

-- ---- what the program is told

-- the next event was told, and nothing else changed
pub record TellsNext (result : Option Event) (old new : Host) : Type 0 where
  pub next : NextEvent old.clock.latest (places_of old) result (places_of new)
  pub order : StaysInOrder old.register.identifiers new.register.identifiers
  pub rest : whole_of new ≡ record (whole_of old) { register = new.register; places = places_of new }
  pub clock : new.clock ≡ old.clock

-- ---- a tag

-- the connection with this number has this tag from now on, and a rest after refused memory is over; or there is none. Nothing else changed
pub record Tags (number tag : ℕ) (result : Result (Unit {0}) HostFault) (old new : Host) : Type 0 where
  pub tagged : OnOk result (PlaceTurns (GuestTagged tag) number (places_of old) (places_of new))
  pub unchanged : OnErr result (places_of new ≡ places_of old)
  pub rest : whole_of new ≡ record (whole_of old) { places = places_of new }
  pub clock : new.clock ≡ old.clock

-- ---- a connection that is abandoned

-- the connection with this number is gone: nobody is in its place, which is free, and nothing leads to it; or there was none. Nothing else
-- changed
pub record Abandons (number : ℕ) (result : Result (Unit {0}) HostFault) (old new : Host) : Type 0 where
  pub there : OnOk result ((g : Guest) × (slice_get old.guests.items number ≡ Some (Some g)))
  pub gone : OnOk result (places_of new ≡ vacated (places_of old) number)
  pub left : OnOk result (HasLeft old.register new.register (slice_get old.guests.items number))
  pub order : StaysInOrder old.register.identifiers new.register.identifiers
  pub unchanged : OnErr result (places_of new ≡ places_of old)
  pub unleft : OnErr result (new.register ≡ old.register)
  pub rest : whole_of new ≡ record (whole_of old) { register = new.register; places = places_of new }
  pub clock : new.clock ≡ old.clock

-- ---- a network that is learned late

-- the host is at this network from now on; nothing else changed, so connections that are there keep theirs
pub record MovesTo (network : ℕ) (old new : Host) : Type 0 where
  pub is : whole_of new ≡ record (whole_of old) { network = network }
  pub clock : new.clock ≡ old.clock

-- ---- a socket that is served

-- from now on these programs are served at this socket, or nothing is served that was not; nothing else changed
pub record ServesAt (socket : ℕ) (programs : List Program) (result : Result (Unit {0}) HostFault) (old new : Host) : Type 0 where
  pub served : OnOk result (Serves old.services.programs new.services.programs socket programs)
  pub unserved : OnErr result (new.services.programs.entries ≡ old.services.programs.entries)
  pub callers : new.services.callers ≡ old.services.callers
  pub rest : whole_of new ≡ record (whole_of old) { services = new.services }
  pub clock : new.clock ≡ old.clock

-- a service is refused where it is wrong, for that reason, or else for want of memory, and then memory was wanted
pub record ServesNot (old : Host) (socket : ℕ) (programs : List Program) (result : Result (Unit {0}) HostFault) : Type 0 where
  pub wrong : (f : HostFault) → wrong_service old.services.programs socket programs ≡ Some f → result ≡ Err f
  pub memory : OnErr result (wrong_service old.services.programs socket programs ≡ None
      → (result ≡ Err NoMemory) × WantsMemory old.services.programs socket programs)

-- ---- a connection of ours

-- a connection was made from this socket, and it is noted; nothing else of the sockets changed
pub record NotesCaller (socket : ℕ) (old new : Services) : Type 0 where
  pub callers : new.callers.items ≡ slice_set old.callers.items socket true
  pub programs : new.programs ≡ old.programs

-- a new connection of ours to the peer has this number, in a place that was free or whose connection gives way; or none was made, and nothing
-- changed
pub record ConnectsTo (now way socket : ℕ) (peer : Address) (result : Result ℕ HostFault) (old new : Host) : Type 0 where
  pub connected : IfOk result (λ n. IsConnected new.guests.items n old.settings old.register.identifiers
      (address_in old.network old.host socket) peer way (time_at old.clock now))
  pub place : IfOk result (IsPlaceForNew old.guests.items)
  pub places : IfOk result (λ n. (g : Guest) → slice_get new.guests.items n ≡ Some (Some g)
      → places_of new ≡ taken_by (vacated (places_of old) n) n g)
  pub turned : IfOk result (λ n. (id : ℕ) × TurnsOver old.register.identifiers new.register.identifiers id)
  pub caller : OnOk result (NotesCaller socket old.services new.services)
  pub unchanged : OnErr result (places_of new ≡ places_of old)
  pub order : OnErr result (StaysInOrder old.register.identifiers new.register.identifiers)
  pub no_caller : OnErr result (new.services ≡ old.services)
  pub rest : whole_of new ≡ record (whole_of old) { services = new.services; register = new.register; places = places_of new }
  pub clock : new.clock ≡ told_at old.clock now
