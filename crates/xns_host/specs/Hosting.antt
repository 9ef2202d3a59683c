-- Many connections behind one address.
use Rattle.std.specs.Prelude.{◌≡◌, ◌≢◌, ◌⊎◌, ℕ, Bool, true, false, not, ◌&&◌, ◌||◌, ◌==◌, List, [], if◌then◌else◌, Option, Some, None, position}
use Rattle.std.specs.Prelude.{slice_get}
use Rattle.std.specs.Option.{is_some, is_none}
use Rattle.courier_sessions.specs.declared.program.Program.{Program}
use Rattle.xns_idp.specs.Packet.{PacketModel}
use Rattle.xns_idp.specs.declared.address.Address.{Address}
use Rattle.xns_idp.specs.declared.packet_type.TheConstants.{ERROR}
use Rattle.xns_spp.specs.Ends.{is_ours_at}
use Rattle.xns_spp.specs.Held.{StandsFor}
use Rattle.xns_spp.specs.Packet.{SppPacketModel}
use Rattle.xns_spp.specs.State.{State, initiator_state, responder_state}
use Rattle.xns_agenda.specs.Agenda.{Plan, IsNoted, asked_at}
use Rattle.xns_connection.specs.Connecting.{is_dead}
use Rattle.xns_connection.specs.Deeds.{acted}
use Rattle.xns_host.specs.Events.{event_in, is_newly_open}
use Rattle.xns_host.specs.Identifiers.{Ids, IsNextIdentifier, is_free}
use Rattle.xns_connection.specs.Ends.{peer_that_opened}
use Rattle.xns_host.specs.Knowing.{id_of, who_opened}
use Rattle.xns_host.specs.Quotes.{is_sent_by, quoted_packet}
use Rattle.xns_host.specs.Register.{peer_at}
use Rattle.xns_connection.specs.Step.{parts_of}
use Rattle.xns_host.specs.Settings.{IsMadeBy}
use Rattle.xns_connection.specs.Story.{has_message, new_story}
use Rattle.xns_connection.specs.Telling.{Tells}
use Rattle.xns_agenda.specs.Times.{IsBy}
use Rattle.xns_agenda.specs.Turns.{has_turn}
use Rattle.xns_agenda.specs.Waiting.{IsDueAfter, due_time}
use Rattle.xns_connection.specs.declared.connection.Connection.{Connection}
use Rattle.xns_agenda.specs.declared.due.Due.{Due}
use Rattle.xns_agenda.specs.declared.due.Due.TheVariants.{Never, AgainAt, AskAt, ForgetAt}
use Rattle.xns_agenda.specs.declared.facts.Facts.{Facts}
use Rattle.xns_agenda.specs.declared.facts.TheConstants.Facts.{NONE}
use Rattle.xns_host.specs.declared.guest.Guest.{Guest}
use Rattle.xns_host.specs.declared.quote.Quote.{Quote}
use Rattle.xns_host.specs.declared.outgoing.Outgoing.{Outgoing}
use Rattle.xns_host.specs.declared.settings.Settings.{Settings}

-- ---- what a host has to know of a connection

abbrev pub tells : Connection → Bool
tells c = has_message c.conversation.side || (is_some c.closed && not c.told)

-- the program may be told something of the connection
abbrev pub may_tell : Guest → Bool
may_tell g = is_newly_open g || tells g.connection

-- when the connection is forgotten, if it is closed and the program was told
abbrev pub forgotten_at : Connection → Option ℕ
forgotten_at c = if is_some c.closed && c.told then due_time c.wait.due else None

-- when its peer was last heard, if that peer only opened the connection, and nothing came of the connection yet
abbrev pub stranger_heard_at : Guest → Option ℕ
stranger_heard_at g =
    if is_some (peer_that_opened g.connection) && (not g.confirmed && (not g.heard_of &&
    (not (is_some g.connection.closed) && not (tells g.connection)))) then Some g.connection.wait.heard_at else None

abbrev pub facts_of : Guest → Facts
facts_of g = record {
  due = due_time g.connection.wait.due;
  has_packet = g.connection.owed.fresh;
  has_event = may_tell g;
  forgotten_at = forgotten_at g.connection;
  stranger_heard_at = stranger_heard_at g;
}

-- a connection that is closed lingers no more, or is dead and did not linger
abbrev pub lingers_no_more : Connection → Bool
lingers_no_more c = is_dead c.closed || is_none (due_time c.wait.due)

-- the connection may be forgotten: it is closed, the program was told, and it lingers no more
abbrev pub may_go : Connection → Bool
may_go c = is_some c.closed && (c.told && lingers_no_more c)

-- the connection in this place may be forgotten
abbrev pub is_done : Option Guest → Bool
is_done None = false
is_done (Some g) = may_go g.connection

-- the connection waits to be forgotten
abbrev pub is_lingering : Due → Bool
is_lingering Never = false
is_lingering (AgainAt t) = false
is_lingering (AskAt t) = false
is_lingering (ForgetAt t) = true

-- the connection may not be forgotten yet: where the program was told that it is closed, it is closed, is not dead, and lingers
abbrev pub IsNotDone : Connection → Type 0
IsNotDone c = c.told ≡ true → (is_some c.closed ≡ true) × (is_dead c.closed ≡ false) × (is_lingering c.wait.due ≡ true)

-- the connection in this place may not be forgotten yet
abbrev pub IsNotDoneIn : Option Guest → Type 0
IsNotDoneIn None = Unit {0}
IsNotDoneIn (Some g) = IsNotDone g.connection

-- no connection may be forgotten yet
pub record HasNoneDone (guests : List (Option Guest)) : Type 0 where
  pub each : (k : ℕ) (g : Guest) → slice_get guests k ≡ Some (Some g) → IsNotDone g.connection

-- ---- one connection of them

-- a connection has this number
abbrev pub has_guest : Option (Option Guest) → Bool
has_guest None = false
has_guest (Some None) = false
has_guest (Some (Some g)) = true

-- the connections with other numbers are as they were
pub record IsApart (old new : List (Option Guest)) (number : ℕ) : Type 0 where
  pub others : (k : ℕ) → k ≢ number → slice_get new k ≡ slice_get old k

-- the connection in this place is such
pub record IsThere (P : Guest → Type 0) (place : Option (Option Guest)) : Type 0 where
  pub guest : Guest
  pub there : place ≡ Some (Some guest)
  pub is : P guest

-- the connection is in this place; or it was forgotten: it is closed, the program was told, and it lingers no more
pub data StaysIn (c : Connection) : Option (Option Guest) → Type 0 where
  stays : (g : Guest) → g.connection ≡ c → StaysIn c (Some (Some g))
  forgotten : may_go c ≡ true → StaysIn c (Some None)

-- what was due of the connection at this time was done, and nothing of it is due then
pub record HasActed (now : ℕ) (c next : Connection) : Type 0 where
  pub parts : parts_of next ≡ acted (parts_of c) now
  pub later : IsDueAfter now next.wait.due

-- what was due of the connection was done, and it is in this place, or it may be forgotten and is
pub record ActsIn (now : ℕ) (c : Connection) (place : Option (Option Guest)) : Type 0 where
  pub next : Connection
  pub acts : HasActed now c next
  pub stays : StaysIn next place
  pub gone : may_go next ≡ true → place ≡ Some None

-- what was due of each connection was done
abbrev pub EachActs : ℕ → (old new : List (Option Guest)) → Type 0
EachActs now old new = (k : ℕ) (g : Guest) → slice_get old k ≡ Some (Some g) → ActsIn now g.connection (slice_get new k)

-- no connection has anything to tell
abbrev pub HasNoEvent : List (Option Guest) → Type 0
HasNoEvent guests = (k : ℕ) (place : Option Guest) → slice_get guests k ≡ Some place → event_in k place ≡ None

-- ---- what is noted of all

-- what there is to know of the connection in a place, if there is one
abbrev pub facts_in : Option Guest → Facts
facts_in None = NONE
facts_in (Some g) = facts_of g

-- the agenda is right for this place: it says what the connection in the place says, and whether there is one. A connection that has
-- something to tell has a turn, and one that has a turn may have something
pub record IsNotedIn (a : Plan) (number : ℕ) (place : Option Guest) : Type 0 where
  pub facts : IsNoted a number (facts_in place)
  pub event : has_turn a.events number ≡ false → event_in number place ≡ None
  pub news : has_turn a.events number ≡ true → (facts_in place).has_event ≡ true
  pub free : has_turn a.free number ≡ is_none place

-- the agenda is right for every place except `number`, where only the free flag is
pub record IsNotedBut (a : Plan) (guests : List (Option Guest)) (number : ℕ) : Type 0 where
  pub others : (k : ℕ) (place : Option Guest) → k ≢ number → slice_get guests k ≡ Some place → IsNotedIn a k place
  pub free : (place : Option Guest) → slice_get guests number ≡ Some place → has_turn a.free number ≡ is_none place

-- the agenda is right for every place: nothing that is to be done is forgotten, and nothing is kept of a connection that is gone
pub record IsAllNoted (a : Plan) (guests : List (Option Guest)) : Type 0 where
  pub each : (k : ℕ) (place : Option Guest) → slice_get guests k ≡ Some place → IsNotedIn a k place

-- ---- when a host wants to be asked

-- something wants it at this time: a packet of none or of a connection may be to go out, or a connection has something to tell, or
-- something is due of one; where memory was refused for packets of connections, they want it when they are asked for again
pub data Wants (strays : List Outgoing) (guests : List (Option Guest)) (short : Option ℕ) : ℕ → Type 0 where
  for_stray : strays ≢ [] → Wants strays guests short 0
  for_packet : (k : ℕ) (g : Guest) → slice_get guests k ≡ Some (Some g) → g.connection.owed.fresh ≡ true → Wants strays guests short (asked_at short)
  for_event : (k : ℕ) (g : Guest) → slice_get guests k ≡ Some (Some g) → event_in k (Some g) ≢ None → Wants strays guests short 0
  for_due : (k t : ℕ) (g : Guest) → slice_get guests k ≡ Some (Some g) → due_time g.connection.wait.due ≡ Some t → Wants strays guests short t

-- a connection may have something to tell: a message waits, which may be a call that is to be rejected; or the program was not told that
-- the connection is open, or why it is closed
pub record MayTell (guests : List (Option Guest)) : Type 0 where
  pub number : ℕ
  pub there : IsThere (λ g. may_tell g ≡ true) (slice_get guests number)

-- a host tells the earliest time at which something wants it, or 0 where a connection may have something to tell; a host that nothing wants
-- tells none
pub record IsFirstWant (strays : List Outgoing) (guests : List (Option Guest)) (short time : Option ℕ) : Type 0 where
  pub least : (t : ℕ) → Wants strays guests short t → IsBy time t
  pub wanted : (t : ℕ) → time ≡ Some t → Wants strays guests short t ⊎ ((t ≡ 0) × MayTell guests)

-- ---- what goes out

-- no connection may have a packet that is to go out
abbrev pub HasNoPacket : List (Option Guest) → Type 0
HasNoPacket guests = (k : ℕ) (g : Guest) → slice_get guests k ≡ Some (Some g) → g.connection.owed.fresh ≡ false

-- ---- who gives way to a new connection

-- each place has a connection
abbrev pub IsFull : List (Option Guest) → Type 0
IsFull guests = (k : ℕ) → slice_get guests k ≢ Some None

-- of all connections that have such a time none has an earlier one; where there is none, none has one
abbrev pub HasNoneSooner : (Guest → Option ℕ) → List (Option Guest) → Option ℕ → Type 0
HasNoneSooner since guests first = (k t : ℕ) (g : Guest) → slice_get guests k ≡ Some (Some g) → since g ≡ Some t → IsBy first t

-- the place that a new connection gets: a free one; where there is none, that of the closed one that lingers longest; where none
-- lingers, that of the one longest silent of those that a peer opened and never confirmed
pub data IsPlaceForNew (guests : List (Option Guest)) : ℕ → Type 0 where
  free_place : (k : ℕ) → slice_get guests k ≡ Some None → IsPlaceForNew guests k
  of_closed : (k t : ℕ) (g : Guest) → IsFull guests → slice_get guests k ≡ Some (Some g) → forgotten_at g.connection ≡ Some t
      → HasNoneSooner (λ h. forgotten_at h.connection) guests (Some t) → IsPlaceForNew guests k
  of_stranger : (k t : ℕ) (g : Guest) → IsFull guests → HasNoneSooner (λ h. forgotten_at h.connection) guests None
      → slice_get guests k ≡ Some (Some g) → stranger_heard_at g ≡ Some t → HasNoneSooner stranger_heard_at guests (Some t) → IsPlaceForNew guests k

-- no place is free, and no connection gives way
pub record HasNoRoom (guests : List (Option Guest)) : Type 0 where
  pub full : IsFull guests
  pub lingers : HasNoneSooner (λ h. forgotten_at h.connection) guests None
  pub strangers : HasNoneSooner stranger_heard_at guests None

-- ---- a new connection

-- the address of a socket of this host
abbrev pub address_in : ℕ → List ℕ → ℕ → Address
address_in network host socket = record { network = network; host = host; socket = socket }

-- with this number there is a connection of ours to the peer, which was made at this time and has done nothing yet: it has the identifier
-- that came next of these, and its packets go out by this way; it owes its opening packet, the program was told nothing of it, and is to be
-- told that it is open where the settings say so, and it has no tag
pub record IsConnected (guests : List (Option Guest)) (number : ℕ) (settings : Settings) (ids : Ids) (own to : Address) (way now : ℕ)
    : Type 0 where
  pub guest : Guest
  pub there : slice_get guests number ≡ Some (Some guest)
  pub next : IsNextIdentifier ids (id_of guest)
  pub tells : Tells guest.connection.conversation (new_story None (initiator_state own (id_of guest) to settings.window settings.backlog))
  pub made : IsMadeBy settings now true guest.connection
  pub via : guest.via ≡ way
  pub peer : guest.peer ≡ to
  pub opener : peer_that_opened guest.connection ≡ None
  pub confirmed : guest.confirmed ≡ false
  pub heard_of : guest.heard_of ≡ false
  pub opening : guest.opening_untold ≡ settings.tells_opened
  pub tag : guest.tag ≡ 0

-- each identifier is some connection's
abbrev pub IsAllInUse : Ids → Type 0
IsAllInUse ids = position (is_free ids.owners) ids.ahead ≡ None

-- ---- an Error packet

-- the Error packet quotes a packet that went out of this connection lately, and its number says that nobody hears it
pub record IsRefusedBy (host : List ℕ) (p : PacketModel) (guest : Guest) : Type 0 where
  pub kind : p.kind ≡ ERROR
  pub here : p.target.host ≡ host
  pub quote : Quote
  pub quoted : quoted_packet p.body ≡ Some quote
  pub state : State
  pub stands : StandsFor guest.connection.conversation.endpoint state
  pub named : quote.source_id ≡ state.ends.id
  pub sent : is_sent_by guest state quote ≡ true

-- ---- a packet that came

-- the packet is to this host, and one of this connection
pub record IsPacketOf (host : List ℕ) (p : SppPacketModel) (guest : Guest) : Type 0 where
  pub here : p.target.host ≡ host
  pub state : State
  pub stands : StandsFor guest.connection.conversation.endpoint state
  pub ours : is_ours_at state.ends p ≡ true

-- the packet names the connection that it is to by our identifier: so the peer has heard of us
abbrev pub confirms : SppPacketModel → Bool
confirms p = not (p.header.target_id == 0)

-- a peer, with this identifier, opened this connection at an address of ours at this time, and nothing was said in it: it has the
-- identifier that came next of these, and its packets go out by this way; one may be to go out, the program was told nothing of it, nor is it
-- to be told that it is open, and it has no tag
pub record IsAnswering (settings : Settings) (ids : Ids) (own opener : Address) (id way now : ℕ) (programs : List Program) (guest : Guest)
    : Type 0 where
  pub next : IsNextIdentifier ids (id_of guest)
  pub tells : Tells guest.connection.conversation
      (new_story (Some programs) (responder_state own (id_of guest) opener id settings.window settings.backlog))
  pub made : IsMadeBy settings now false guest.connection
  pub via : guest.via ≡ way
  pub peer : guest.peer ≡ opener
  pub known_by : who_opened guest ≡ Some (peer_at opener id own.socket)
  pub confirmed : guest.confirmed ≡ false
  pub heard_of : guest.heard_of ≡ false
  pub opening : guest.opening_untold ≡ false
  pub tag : guest.tag ≡ 0
