-- What a host does at its connections, one after another.
use Rattle.std.specs.Prelude.{◌≡◌, ◌<◌, ℕ, Bool, true, false, List, Option, Some, None, Result, Ok, Err, slice_get, slice_set}
use Rattle.xns_agenda.specs.Agenda.{Plan, noted, released}
use Rattle.xns_agenda.specs.Times.{IsFirstBy}
use Rattle.xns_agenda.specs.Turns.{HasNoTurn, IsFirst, with_turn}
use Rattle.xns_agenda.specs.Waiting.{last_time, later}
use Rattle.xns_host.specs.Events.{event_in}
use Rattle.xns_host.specs.Hosting.{EachActs, facts_of, may_go}
use Rattle.xns_host.specs.Went.{GuestActs, GuestGives, GuestReports}
use Rattle.xns_host.specs.declared.event.Event.{Event}
use Rattle.xns_host.specs.declared.guest.Guest.{Guest}
use Rattle.xns_host.specs.declared.host_fault.HostFault.{HostFault}
use Rattle.xns_host.specs.declared.host_fault.HostFault.TheVariants.{NoMemory}
use Rattle.xns_host.specs.declared.outgoing.Outgoing.{Outgoing}

-- ---- places

-- the connections of a host by number, and what is to be done of them
pub record Places : Type 0 where
  pub guests : List (Option Guest)
  pub agenda : Plan

abbrev pub places_with : List (Option Guest) → Plan → Places
places_with guests agenda = record { guests = guests; agenda = agenda }

-- a connection is put into a place, and what is to be done of it is noted
abbrev pub seated : Places → ℕ → Guest → Places
seated p number g = record { guests = slice_set p.guests number (Some g); agenda = noted p.agenda number (facts_of g) }

-- nobody is in this place
abbrev pub vacated : Places → ℕ → Places
vacated p number = record { guests = slice_set p.guests number None; agenda = released p.agenda number }

abbrev pub vacated_if : Bool → Places → ℕ → Places
vacated_if true p number = vacated p number
vacated_if false p number = p

-- the connection in this place became that one, which is forgotten where it may be
abbrev pub became : Places → ℕ → Guest → Places
became p number g = vacated_if (may_go g.connection) (seated p number g) number

-- the places when this new connection took this one
abbrev pub taken_by : Places → ℕ → Guest → Places
taken_by p number g = seated (record p { agenda = record p.agenda { free = with_turn p.agenda.free number false } }) number g

-- the connection with this number became one in this way, and what is to be done of it is noted
pub record PlaceTurns (P : Guest → Guest → Type 0) (number : ℕ) (p r : Places) : Type 0 where
  pub guest : Guest
  pub next : Guest
  pub was : slice_get p.guests number ≡ Some (Some guest)
  pub turn : P guest next
  pub is : r ≡ seated p number next

-- ---- what the program is told

-- the connection with this number has had its turn to tell something
abbrev pub event_passed : Places → ℕ → Places
event_passed p number = record p { agenda = record p.agenda { events = with_turn p.agenda.events number false } }

-- the connection with this number was asked what it has to tell: it has nothing; or it told this event
pub data AsksEvent (now number : ℕ) (p : Places) : Option Event → Places → Type 0 where
  quiet : (place : Option Guest) → slice_get p.guests number ≡ Some place → event_in number place ≡ None
      → AsksEvent now number p None (event_passed p number)
  tells : (g h : Guest) (event : Event) → slice_get p.guests number ≡ Some (Some g) → event_in number (Some g) ≡ Some event → GuestReports now g h
      → AsksEvent now number p (Some event) (became (event_passed p number) number h)

-- as often as it had nothing to tell, the one whose turn it was was asked
pub data AsksInVain (now : ℕ) (p : Places) : Places → Type 0 where
  nobody : AsksInVain now p p
  another : {q r : Places} (number : ℕ) → AsksInVain now p q → IsFirst q.agenda.events number → AsksEvent now number q None r → AsksInVain now p r

-- the next event is what the first of those had to tell that have a turn and have something to tell; where there is none, nobody has a turn
pub data NextEvent (now : ℕ) (p : Places) : Option Event → Places → Type 0 where
  nothing : {q : Places} → AsksInVain now p q → HasNoTurn q.agenda.events → NextEvent now p None q
  told : {q r : Places} {event : Event} (number : ℕ) → AsksInVain now p q → IsFirst q.agenda.events number
      → AsksEvent now number q (Some event) r → NextEvent now p (Some event) r

-- ---- what is due

-- what was due of the connection with this number was done
pub record ActsAt (now number : ℕ) (p r : Places) : Type 0 where
  pub guest : Guest
  pub next : Guest
  pub was : slice_get p.guests number ≡ Some (Some guest)
  pub acts : GuestActs now guest next
  pub is : r ≡ became p number next

-- what was due was done, of one connection after another of which something was due
pub data ActsOneByOne (now : ℕ) (p : Places) : Places → Type 0 where
  nobody : ActsOneByOne now p p
  another : {q r : Places} (number : ℕ) → ActsOneByOne now p q → IsFirstBy q.agenda.dues now number → ActsAt now number q r → ActsOneByOne now p r

-- what was due of each connection was done
pub record ActsAll (now : ℕ) (p r : Places) : Type 0 where
  pub one_by_one : ActsOneByOne now p r
  pub all : now < last_time → EachActs now p.guests r.guests

-- ---- what goes out

-- the connection with this number has had its turn to give a packet
abbrev pub packet_passed : Places → ℕ → Places
packet_passed p number = record p { agenda = record p.agenda { packets = with_turn p.agenda.packets number false } }

-- the connection with this number was asked for a packet
abbrev pub AsksPacket : (now number : ℕ) → Result (Option Outgoing) HostFault → (p r : Places) → Type 0
AsksPacket now number result p r = PlaceTurns (GuestGives now result) number (packet_passed p number) r

-- as often as it had none, the one whose turn it was was asked
pub data GivesNone (now : ℕ) (p : Places) : Places → Type 0 where
  nobody : GivesNone now p p
  another : {q r : Places} (number : ℕ) → GivesNone now p q → IsFirst q.agenda.packets number → AsksPacket now number (Ok None) q r
      → GivesNone now p r

-- packets are asked for again at this time
abbrev pub resting : Places → ℕ → Places
resting p time = record p { agenda = record p.agenda { short = Some time } }

-- the next packet is that of the first of those that have a turn and have one; where there is none, nobody has a turn; or memory was refused
-- to one on the way: packets are asked for again when so long a wait is over
pub data NextPacket (now wait : ℕ) (p : Places) : Result (Option Outgoing) HostFault → Places → Type 0 where
  nothing : {q : Places} → GivesNone now p q → HasNoTurn q.agenda.packets → NextPacket now wait p (Ok None) q
  gives : {q r : Places} {packet : Outgoing} (number : ℕ) → GivesNone now p q → IsFirst q.agenda.packets number
      → AsksPacket now number (Ok (Some packet)) q r → NextPacket now wait p (Ok (Some packet)) r
  starves : {q r : Places} (number : ℕ) → GivesNone now p q → IsFirst q.agenda.packets number → AsksPacket now number (Err NoMemory) q r
      → NextPacket now wait p (Err NoMemory) (resting r (later now wait))
