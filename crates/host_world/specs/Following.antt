-- A host goes on with the meetings that its connections are in, whatever is called, until it forgets them.
use Rattle.std.specs.Prelude.{◌≡◌, ◌≢◌, ◌⊎◌, ℕ, ◌==◌, Bool, true, false, List, [], ◌∷◌, if◌then◌else◌, Option, Some, None, Result, Ok, Err, slice_get}
use Rattle.std.specs.Option.{is_some}
use Rattle.courier_messages.specs.RawCalls.{RawCall}
use Rattle.courier_sessions.specs.Answering.{answer_message}
use Rattle.courier_sessions.specs.declared.answer.Answer.{Answer}
use Rattle.courier_sessions.specs.declared.program.Program.{Program}
use Rattle.item_world.specs.declared.side.Side.{Side}
use Rattle.item_world.specs.declared.side.Side.TheVariants.{A, B}
use Rattle.xns_idp.specs.declared.address.Address.{Address}
use Rattle.xns_connection.specs.Deeds as deeds
use Rattle.xns_connection.specs.Deeds.{Deed}
use Rattle.xns_connection.specs.Ends.{peer_that_opened}
use Rattle.xns_connection.specs.Living.{Deeds}
use Rattle.xns_connection.specs.Story.{asked_of}
use Rattle.xns_host.specs.Knowing.{id_of}
use Rattle.xns_host.specs.Turn.{Abandons, ConnectsTo, MovesTo, ServesAt, Tags, TellsNext, Turn}
use Rattle.xns_connection.specs.declared.conversation.Conversation.{Conversation}
use Rattle.xns_host.specs.declared.event.Event.{Event}
use Rattle.xns_host.specs.declared.event.Event.TheVariants as events
use Rattle.xns_host.specs.declared.guest.Guest.{Guest}
use Rattle.xns_host.specs.declared.host.Host.{Host}
use Rattle.xns_host.specs.declared.host_fault.HostFault.{HostFault}
use Rattle.xns_host.specs.declared.outgoing.Outgoing.{Outgoing}
use Rattle.host_world.specs.Guests.{LeadsTo, packet_returned}
use Rattle.host_world.specs.Meeting.{Meeting, at}
use Rattle.host_world.specs.Meets.{Meets}
use Rattle.host_world.specs.Pairing.{DoesAt, MayCome, with_no_more, one_answer_more, one_call_more, one_message_more}
use Rattle.host_world.specs.Seen.{number_of}
use Rattle.host_world.specs.Station.{IsStation}
use Rattle.host_world.specs.declared.station.Station.{Station}

-- a host may forget a connection when a function is called: the connection is over for the program by this function, which tells it so or by
-- which it abandons the connection; or the program was told before that it is closed; or a peer opened it, it is not closed, and the program
-- was handed no call of it
abbrev pub MayBeForgotten : (over : Bool) → Guest → Type 0
MayBeForgotten over g =
    (over ≡ true) ⊎ ((g.connection.told ≡ true) ⊎ ((is_some (peer_that_opened g.connection) ≡ true) × (g.heard_of ≡ false) × (g.connection.closed ≡ None)))

-- a connection is not in this place: nobody is, or one that has another identifier of ours
abbrev pub IsGone : Guest → Option (Option Guest) → Type 0
IsGone g place = (place ≡ Some None) ⊎ ((h : Guest) × (place ≡ Some (Some h)) × (id_of h ≢ id_of g))

-- at most so many steps of the meeting led on from a connection, in which the program at this side did so and the connection gave these packets,
-- to the connection in this place; or the host forgot the connection behind them, as it may
pub data IsFollowedTo (a b : Station) (programs : List Program) (most : ℕ) (m : Meeting) (side : Side) (did : Deeds → Deeds) (gave : List (List ℕ))
    (over : Bool) (g : Guest) (place : Option (Option Guest)) : Type 0 where
  stays : (h : Guest) → place ≡ Some (Some h) → LeadsTo a b programs most m side h did gave → IsFollowedTo a b programs most m side did gave over g place
  forgotten : (h : Guest) → LeadsTo a b programs most m side h did gave → MayBeForgotten over g → IsGone g place
      → IsFollowedTo a b programs most m side did gave over g place

-- the connection that was in a place is followed by at most so many steps, whatever meeting it is in, where what was done may be done to that
-- meeting
abbrev pub IsFollowed : (most : ℕ) (may : Meeting → Side → Type 0) (did : Deeds → Deeds) (gave : List (List ℕ)) (over : Bool) (old new : Option (Option Guest))
    → Type 0
IsFollowed most may did gave over old new = (g : Guest) → old ≡ Some (Some g) → (a b : Station) (programs : List Program) (m : Meeting) (side : Side)
    → Meets a b programs m → (at m side).conversation ≡ g.connection.conversation → may m side
    → IsFollowedTo a b programs most m side did gave over g new

-- at each number of a host the connection is followed by at most so many steps
abbrev pub EachFollowed : (most : ℕ) (may : Meeting → Side → Type 0) (did : ℕ → Deeds → Deeds) (gave : ℕ → List (List ℕ)) (over : ℕ → Bool) (h j : Host)
    → Type 0
EachFollowed most may did gave over h j =
    (k : ℕ) → IsFollowed most may (did k) (gave k) (over k) (slice_get h.guests.items k) (slice_get j.guests.items k)

-- bytes may come to the connection, if any do
abbrev pub MayTake : Option (List ℕ) → Meeting → Side → Type 0
MayTake None m side = Unit {0}
MayTake (Some bytes) m side = MayCome m side bytes

-- at this number the program did so, and nothing at the others; of the packets that a connection gave, and of being over for the
-- program, likewise
abbrev pub did_at : ℕ → (Deeds → Deeds) → ℕ → Deeds → Deeds
did_at number did k = if k == number then did else with_no_more

abbrev pub gave_at : ℕ → List (List ℕ) → ℕ → List (List ℕ)
gave_at number gave k = if k == number then gave else []

abbrev pub gave_none : ℕ → List (List ℕ)
gave_none k = []

abbrev pub over_at : ℕ → Bool → ℕ → Bool
over_at number over k = if k == number then over else false

abbrev pub over_none : ℕ → Bool
over_none k = false

-- what the program does by an event that it is told
abbrev pub deed_of : Event → Deeds → Deeds
deed_of (events.Opened number tag) = with_no_more
deed_of (events.Call number tag program version procedure m) = one_message_more m
deed_of (events.Answer number tag answer m) = one_message_more m
deed_of (events.Closed number tag why) = with_no_more

-- whether an event tells the program that a connection is closed
abbrev pub is_last : Event → Bool
is_last (events.Opened number tag) = false
is_last (events.Call number tag program version procedure m) = false
is_last (events.Answer number tag answer m) = false
is_last (events.Closed number tag why) = true

-- what the program does by a function of its host, by number, and at which number the connection is over for it: it is told that the connection
-- is closed, or abandons it
pub data ProgramHasDone (h j : Host) : (ℕ → Deeds → Deeds) → (ℕ → Bool) → Type 0 where
  called : (now number : ℕ) (c : RawCall) → Turn now number (deeds.made c) (Ok tt) h j → ProgramHasDone h j (did_at number (one_call_more c)) over_none
  answered : (now number k : ℕ) (kind : Answer) (words : List ℕ) (g : Guest) → slice_get h.guests.items number ≡ Some (Some g)
      → asked_of g.connection.conversation.side ≡ Some k → Turn now number (deeds.gave kind words) (Ok tt) h j
      → ProgramHasDone h j (did_at number (one_answer_more (answer_message kind k words))) over_none
  closed : (now number : ℕ) → Turn now number deeds.asked (Ok tt) h j → ProgramHasDone h j (did_at number with_no_more) over_none
  was_told : (event : Event) → TellsNext (Some event) h j
      → ProgramHasDone h j (did_at (number_of event) (deed_of event)) (over_at (number_of event) (is_last event))
  connected : (now way socket : ℕ) (peer : Address) (number : ℕ) → ConnectsTo now way socket peer (Ok number) h j → ProgramHasDone h j (λ k. with_no_more) over_none
  was_refused : (now number : ℕ) (deed : Deed) (fault : HostFault) → Turn now number deed (Err fault) h j → ProgramHasDone h j (λ k. with_no_more) over_none
  abandoned : (number : ℕ) → Abandons number (Ok tt) h j → ProgramHasDone h j (λ k. with_no_more) (over_at number true)
  abandoned_none : (number : ℕ) (fault : HostFault) → Abandons number (Err fault) h j → ProgramHasDone h j (λ k. with_no_more) over_none
  found_no_room : (now way socket : ℕ) (peer : Address) (fault : HostFault) → ConnectsTo now way socket peer (Err fault) h j
      → ProgramHasDone h j (λ k. with_no_more) over_none
  was_told_nothing : TellsNext None h j → ProgramHasDone h j (λ k. with_no_more) over_none
  served : (socket : ℕ) (programs : List Program) (result : Result (Unit {0}) HostFault) → ServesAt socket programs result h j
      → ProgramHasDone h j (λ k. with_no_more) over_none
  moved : (network : ℕ) → MovesTo network h j → ProgramHasDone h j (λ k. with_no_more) over_none
  tagged : (number tag : ℕ) (result : Result (Unit {0}) HostFault) → Tags number tag result h j → ProgramHasDone h j (λ k. with_no_more) over_none

-- the packet that goes out of the host is one that a connection gave that it has at this number; or none goes out; or the first of the host's
-- stray replies does, which no connection gave
pub data HasGiven (h : Host) (result : Result (Option Outgoing) HostFault) : (ℕ → List (List ℕ)) → Type 0 where
  one : (number : ℕ) (g : Guest) → slice_get h.guests.items number ≡ Some (Some g) → HasGiven h result (gave_at number (packet_returned result))
  none : packet_returned result ≡ [] → HasGiven h result gave_none
  stray : (o : Outgoing) (others : List Outgoing) → h.strays.waiting ≡ o ∷ others → result ≡ Ok (Some o) → HasGiven h result gave_none

-- ---- two hosts

-- the host has this connection at this number
pub record Has (h : Host) (number : ℕ) (c : Conversation) : Type 0 where
  pub guest : Guest
  pub there : slice_get h.guests.items number ≡ Some (Some guest)
  pub same : c ≡ guest.connection.conversation

-- the connections of the meeting are those that the two hosts have at these numbers; the first calls
pub record HostsStandFor (h k : Host) (here there : ℕ) (a b : Station) (programs : List Program) (m : Meeting) : Type 0 where
  pub station : IsStation a
  pub peer : IsStation b
  pub meets : Meets a b programs m
  pub calls : Has h here (at m A).conversation
  pub called : Has k there (at m B).conversation

-- hosts stand for a meeting to which what was done led in at most so many steps; or the host at this side forgot the connection behind such
-- steps, as it may, and the connection is gone from the place
pub data StandsOn (a b : Station) (programs : List Program) (most : ℕ) (m : Meeting) (side : Side) (did : Deeds → Deeds) (gave : List (List ℕ)) (over : Bool)
    (old new : Option (Option Guest)) (Stands : Meeting → Type 0) : Type 0 where
  stands : (n : Meeting) → Stands n → DoesAt most m n side did gave → StandsOn a b programs most m side did gave over old new Stands
  forgot : (g : Guest) → old ≡ Some (Some g) → MayBeForgotten over g → IsGone g new
      → (n : Meeting) → Meets a b programs n → DoesAt most m n side did gave → StandsOn a b programs most m side did gave over old new Stands
