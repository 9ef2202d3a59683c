-- What becomes of a host that C holds.
use Rattle.std.specs.Prelude.{◌≡◌, ◌≢◌, ◌⊎◌, ◌<◌, ◌≤◌, ℕ, Bool, true, false, ◌&&◌, ◌==◌, if◌then◌else◌, List, length, Option, Some, None, Result, Ok, Err, slice_get}
use Rattle.courier_messages.specs.RawCalls.{RawCall}
use Rattle.courier_sessions.specs.declared.answer.Answer.{Answer}
use Rattle.courier_sessions.specs.declared.program.Program.{Program}
use Rattle.xns_idp.specs.declared.address.Address.{Address}
use Rattle.xns_connection.specs.Deeds.{Deed, asked, gave, made}
use Rattle.xns_host.specs.Refusing.{TellsRefusal, wrong_ends}
use Rattle.xns_host.specs.Standing.{IsNewHost}
use Rattle.xns_host.specs.Turn.{Abandons, ConnectsTo, GivesOut, MovesTo, ServesAt, ServesNot, Tags, TakesIn, TellsNext, Turn, WakesAt}
use Rattle.xns_host.specs.Hosting.{HasNoRoom, IsAllInUse, address_in, has_guest}
use Rattle.xns_host.specs.Numbers.{IsNumberFrom}
use Rattle.xns_connection.specs.Reasons.{call_fault_of, answer_fault_of}
use Rattle.xns_connection.specs.declared.conversation.Conversation.{Conversation}
use Rattle.xns_connection.specs.declared.refusal.Refusal.{Refusal}
use Rattle.xns_host.specs.declared.event.Event.{Event}
use Rattle.xns_host.specs.declared.guest.Guest.{Guest}
use Rattle.xns_host.specs.declared.host.Host.{Host}
use Rattle.xns_host.specs.declared.host_fault.HostFault.{HostFault}
use Rattle.xns_host.specs.declared.host_fault.HostFault.TheVariants.{NoConnection}
use Rattle.xns_host.specs.declared.outgoing.Outgoing.{Outgoing}
use Rattle.xns_host.specs.declared.settings.Settings.{Settings}
use Rattle.xns_c.specs.Events.{EventIsGiven, event_number, is_answer, with_tag}
use Rattle.xns_c.specs.Faults.{host_fault_number, host_told}
use Rattle.xns_c.specs.Given.{IsPut, IsTold}
use Rattle.xns_c.specs.Owned.{Changes}
use Rattle.xns_c.specs.Results.{ok, nothing, no_memory, short_buffer, bad_argument, busy, no_connection, no_host, no_slot}
use Rattle.xns_c.specs.Settings.{never}
use Rattle.xns_c.specs.declared.event.XnsEvent.{XnsEvent}
use Rattle.xns_c.specs.declared.kept_host.KeptHost.{KeptHost}

-- what a function does with the host of a handle: where the handle has none, the function says so, and the handle has none still
abbrev pub Does : Option KeptHost → Option KeptHost → ℕ → (KeptHost → KeptHost → Type 0) → Type 0
Does old new result P = Changes old new no_host result P

-- the connection with a number, if there is one
abbrev pub guest_at : KeptHost → ℕ → Option (Option Guest)
guest_at k number = slice_get k.host.guests.items number

-- a new host at this address, with these settings and this secret, of which nothing is kept
abbrev pub IsNew : Option KeptHost → Address → Settings → List ℕ → Type 0
IsNew None own settings secret = ⊥
IsNew (Some k) own settings secret = IsNewHost own.network own.host settings secret k.host
    × (length k.host.guests.items ≡ settings.connections) × (k.event ≡ None) × (k.packet ≡ None)

-- ---- functions that name a connection

-- the host made this turn, and the answer is told; what is kept of packets stays
pub record HostTurns (k n : KeptHost) (now number : ℕ) (deed : Deed) (reason : Conversation → Option Refusal) (result : ℕ) : Type 0 where
  pub answer : Result (Unit {0}) HostFault
  pub told : result ≡ host_told answer
  pub turn : Turn now number deed answer k.host n.host
  pub none : has_guest (guest_at k number) ≡ false → answer ≡ Err (NoConnection number)
  pub refused : (g : Guest) → guest_at k number ≡ Some (Some g) → TellsRefusal (reason g.connection.conversation) answer
  pub packet : n.packet ≡ k.packet

-- the event that is kept goes where it is of a connection whose call was answered, or that was abandoned
abbrev pub unless_of : Option Event → ℕ → Option Event
unless_of None number = None
unless_of (Some e) number = if event_number e == number then None else Some e

abbrev pub kept_after : Option Event → ℕ → ℕ → Option Event
kept_after event number result = if result == ok then unless_of event number else event

-- an answer on this connection is kept
abbrev pub keeps_answer : Option Event → ℕ → Bool
keeps_answer None number = false
keeps_answer (Some e) number = is_answer e && event_number e == number

-- an answer that is kept goes where its connection was asked to close; a call that is kept stays, since it is to be answered first
abbrev pub kept_closing : Option Event → ℕ → ℕ → Option Event
kept_closing event number result = if result == ok && keeps_answer event number then None else event

-- the call was made; while an answer on the connection is kept, it changes nothing
pub record HostCalls (k n : KeptHost) (now number : ℕ) (call : RawCall) (result : ℕ) : Type 0 where
  pub kept : keeps_answer k.event number ≡ true → (result ≡ busy) × (n ≡ k)
  pub turns : keeps_answer k.event number ≡ false → HostTurns k n now number (made call) (λ t. call_fault_of t call) result
  pub event : n.event ≡ k.event

-- the answer was given; a kind that no answer has changes nothing
pub record AnswersCall (k n : KeptHost) (now number : ℕ) (answer : Option Answer) (words : List ℕ) (result : ℕ) : Type 0 where
  pub turns : (a : Answer) → answer ≡ Some a → HostTurns k n now number (gave a words) (λ t. answer_fault_of t a words) result
  pub bad : answer ≡ None → (result ≡ bad_argument) × (n ≡ k)
  pub event : n.event ≡ kept_after k.event number result

-- the connection was asked to close, as each one is that is there
pub record Closes (k n : KeptHost) (now number result : ℕ) : Type 0 where
  pub turns : HostTurns k n now number asked (λ t. None) result
  pub some : (g : Guest) → guest_at k number ≡ Some (Some g) → result ≡ ok
  pub event : n.event ≡ kept_closing k.event number result

-- the host did this with the connection, after which this event is kept; or there was none, and the answer is told. A packet that is kept
-- stays
pub record DoesWithOne (Deed : Result (Unit {0}) HostFault → Host → Host → Type 0) (kept : Option Event) (k n : KeptHost) (number result : ℕ) : Type 0 where
  pub answer : Result (Unit {0}) HostFault
  pub told : result ≡ host_told answer
  pub done : Deed answer k.host n.host
  pub none : has_guest (guest_at k number) ≡ false → answer ≡ Err (NoConnection number)
  pub some : (g : Guest) → guest_at k number ≡ Some (Some g) → answer ≡ Ok tt
  pub packet : n.packet ≡ k.packet
  pub event : n.event ≡ kept

-- the connection is gone, and its event that is kept
abbrev pub AbandonsOne : KeptHost → KeptHost → ℕ → ℕ → Type 0
AbandonsOne k n number result = DoesWithOne (Abandons number) (kept_after k.event number result) k n number result

-- an event that is kept has the tag that its connection was given
abbrev pub retagged : Option Event → ℕ → ℕ → Option Event
retagged None number tag = None
retagged (Some e) number tag = Some (if event_number e == number then with_tag tag e else e)

abbrev pub kept_tagging : Option Event → ℕ → ℕ → ℕ → Option Event
kept_tagging event number tag result = if result == ok then retagged event number tag else event

-- the connection has that tag from now on, and so has its event that is kept
abbrev pub TagsOne : KeptHost → KeptHost → ℕ → ℕ → ℕ → Type 0
TagsOne k n number tag result = DoesWithOne (Tags number tag) (kept_tagging k.event number tag result) k n number result

-- ---- other functions

-- the event and the packet that are kept stay
pub record StaysKept (k n : KeptHost) : Type 0 where
  pub event : n.event ≡ k.event
  pub packet : n.packet ≡ k.packet

-- the host serves these programs at this socket, or says why not
pub record HostServes (k n : KeptHost) (socket : ℕ) (programs : List Program) (result : ℕ) : Type 0 where
  pub answer : Result (Unit {0}) HostFault
  pub told : result ≡ host_told answer
  pub serves : ServesAt socket programs answer k.host n.host
  pub refused : ServesNot k.host socket programs answer
  pub kept : StaysKept k n

-- the host is at this network from now on, and nothing else changed
pub record HostMoves (k n : KeptHost) (network : ℕ) : Type 0 where
  pub moves : MovesTo network k.host n.host
  pub kept : StaysKept k n

-- what the host says of whether a packet was for it
abbrev pub whether : Bool → ℕ
whether true = ok
whether false = nothing

-- the host took the packet in, and says whether it was for it
pub record Receives (k n : KeptHost) (now way : ℕ) (bytes : List ℕ) (result : ℕ) : Type 0 where
  pub ours : Bool
  pub told : result ≡ whether ours
  pub takes : TakesIn now way bytes ours k.host n.host
  pub kept : StaysKept k n

-- when the host wants to be asked, or never
abbrev pub time_or_never : Option ℕ → ℕ
time_or_never None = never
time_or_never (Some time) = time

pub record WakesHost (h : Host) (time : ℕ) : Type 0 where
  pub at : Option ℕ
  pub wakes : WakesAt h at
  pub is : time ≡ time_or_never at

-- when a host of C wants to be asked: at once where something is kept, and else when the host in it does
pub record Wakes (k : KeptHost) (time : ℕ) : Type 0 where
  pub event : k.event ≢ None → time ≡ 0
  pub packet : k.packet ≢ None → time ≡ 0
  pub host : k.event ≡ None → k.packet ≡ None → WakesHost k.host time

-- the first number from this one on that a connection has is told
abbrev pub WalksOn : KeptHost → (from old new result : ℕ) → Type 0
WalksOn k from old new result = (found : Option ℕ) × IsNumberFrom k.host.guests.items from found × IsTold found nothing old new result

-- what C asks about the connection with a number is told, or that there is no host, or that no connection has the number. The handle keeps its
-- host
pub record TellsOfGuest {A B : Type 0} (old new : Option KeptHost) (number : ℕ) (about : Guest → A) (meant : B → A) (was told : B) (result : ℕ) : Type 0 where
  pub some : (k : KeptHost) (g : Guest) → old ≡ Some k → guest_at k number ≡ Some (Some g) → (result ≡ ok) × (meant told ≡ about g)
  pub nobody : (k : KeptHost) → old ≡ Some k → has_guest (guest_at k number) ≡ false → result ≡ no_connection
  pub none : old ≡ None → result ≡ no_host
  pub same : new ≡ old
  pub unchanged : result ≢ ok → told ≡ was

-- what C is told where a connection was given a number, or of the reason why none was
abbrev pub number_told : Result ℕ HostFault → ℕ
number_told (Ok number) = ok
number_told (Err fault) = host_fault_number fault

-- why no connection is opened from this socket to there, whatever is there
abbrev pub ends_fault : KeptHost → ℕ → Address → Option HostFault
ends_fault k socket to = wrong_ends (address_in k.host.network k.host.host socket) to

-- a new connection has this number; or none is made, and why
pub record Connects (k n : KeptHost) (now socket : ℕ) (to : Address) (way number result : ℕ) : Type 0 where
  pub wrong : (f : HostFault) → ends_fault k socket to ≡ Some f → result ≡ host_fault_number f
  pub full : ends_fault k socket to ≡ None → HasNoRoom k.host.guests.items → result ≡ no_slot
  pub used : ends_fault k socket to ≡ None → IsAllInUse k.host.register.identifiers → result ≡ no_slot
  pub room : ends_fault k socket to ≡ None → result ≡ no_slot → HasNoRoom k.host.guests.items ⊎ IsAllInUse k.host.register.identifiers
  pub fault : ends_fault k socket to ≡ None → result ≢ ok → (result ≡ no_slot) ⊎ (result ≡ no_memory)
  pub answer : Result ℕ HostFault
  pub told : result ≡ number_told answer
  pub found : (i : ℕ) → answer ≡ Ok i → number ≡ i
  pub connects : ConnectsTo now way socket to answer k.host n.host
  pub kept : StaysKept k n

-- ---- what is fetched

-- what stays kept of what was fetched: all where the buffer had no room, and else nothing
abbrev pub left_of : {A : Type 0} → Option A → ℕ → Option A
left_of found result = if result == short_buffer then found else None

-- the event is given; or there is none, and nothing is written
abbrev pub GivesEvent : Option Event → XnsEvent → XnsEvent → List ℕ → List ℕ → ℕ → ℕ → ℕ → Type 0
GivesEvent None before after old new had count result = (result ≡ nothing) × (after ≡ before) × (new ≡ old) × (count ≡ had)
GivesEvent (Some e) before after old new had count result = EventIsGiven e after old new count result

-- an event that is kept is the next one; where none is kept it is the one that the host tells, if it tells one
pub record FetchesEvent (k n : KeptHost) (before after : XnsEvent) (old new : List ℕ) (had count result : ℕ) : Type 0 where
  pub found : Option Event
  pub kept : (e : Event) → k.event ≡ Some e → (found ≡ Some e) × (n.host ≡ k.host)
  pub tells : k.event ≡ None → TellsNext found k.host n.host
  pub given : GivesEvent found before after old new had count result
  pub left : n.event ≡ left_of found result
  pub packet : n.packet ≡ k.packet

-- the packet is given, its bytes to the front of a buffer, and its way; or there is none, and nothing is written
abbrev pub GivesPacket : Option Outgoing → List ℕ → List ℕ → ℕ → ℕ → ℕ → ℕ → ℕ → Type 0
GivesPacket None old new had written way via result =
    ((result ≡ nothing) ⊎ (result ≡ no_memory)) × (new ≡ old) × (written ≡ had) × (via ≡ way)
GivesPacket (Some p) old new had written way via result =
    (length p.packet ≤ length old → (result ≡ ok) × IsPut p.packet old new written × (via ≡ p.via))
    × (length old < length p.packet → (result ≡ short_buffer) × (written ≡ length p.packet) × (new ≡ old) × (via ≡ way))

-- what a host returned of which this packet was fetched, if any, or which had no memory
abbrev pub answer_of : Result (Unit {0}) HostFault → Option Outgoing → Result (Option Outgoing) HostFault
answer_of (Ok u) found = Ok found
answer_of (Err fault) found = Err fault

-- a packet that is kept is the next one; where none is kept it is the one that the host gives, if it gives one
pub record FetchesPacket (k n : KeptHost) (now : ℕ) (old new : List ℕ) (had written way via result : ℕ) : Type 0 where
  pub found : Option Outgoing
  pub done : Result (Unit {0}) HostFault
  pub gives : k.packet ≡ None → GivesOut now (answer_of done found) k.host n.host
  pub starved : result ≡ no_memory → done ≢ Ok tt
  pub fetched : result ≢ no_memory → done ≡ Ok tt
  pub kept : (p : Outgoing) → k.packet ≡ Some p → (found ≡ Some p) × (n.host ≡ k.host)
  pub given : GivesPacket found old new had written way via result
  pub left : n.packet ≡ left_of found result
  pub event : n.event ≡ k.event
