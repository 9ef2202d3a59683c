-- What a program sees of a host, number by number, whatever functions of the host it calls.
use Rattle.std.specs.Prelude.{◌≡◌, ℕ, ◌==◌, Bool, List, [], ◌∷◌, ◌++◌, if◌then◌else◌, Option, Some, None, Result, Ok, Err, slice_get}
use Rattle.std.specs.List.{filter, list_any}
use Rattle.std.specs.Option.{is_none, is_some}
use Rattle.courier_messages.specs.RawCalls.{RawCall}
use Rattle.courier_sessions.specs.declared.answer.Answer.{Answer}
use Rattle.courier_sessions.specs.declared.program.Program.{Program}
use Rattle.xns_idp.specs.declared.address.Address.{Address}
use Rattle.xns_connection.specs.Deeds as deeds
use Rattle.xns_connection.specs.Deeds.{Deed}
use Rattle.xns_connection.specs.Ends.{peer_that_opened}
use Rattle.xns_connection.specs.declared.why.Why.{Why}
use Rattle.xns_host.specs.Knowing.{id_of}
use Rattle.xns_host.specs.Standing.{IsNewHost}
use Rattle.xns_host.specs.Turn.{Abandons, ConnectsTo, GivesOut, MovesTo, ServesAt, Tags, TakesIn, TellsNext, Turn}
use Rattle.xns_host.specs.declared.event.Event.{Event}
use Rattle.xns_host.specs.declared.event.Event.TheVariants as events
use Rattle.xns_host.specs.declared.guest.Guest.{Guest}
use Rattle.xns_host.specs.declared.host.Host.{Host}
use Rattle.xns_host.specs.declared.host_fault.HostFault.{HostFault}
use Rattle.xns_host.specs.declared.outgoing.Outgoing.{Outgoing}
use Rattle.xns_host.specs.declared.settings.Settings.{Settings}
use Rattle.host_world.specs.Dialogue.{Course, Dialogue, Happening, View, abandons, announces, answers, asks, calls, closes, connects, free, goes, hands, held, is_going, is_said, opens, tells}

-- ---- the functions of a host

-- what the program says by a deed of its own
pub data IsSaid : Deed → Happening → Type 0 where
  of_call : (c : RawCall) → IsSaid (deeds.made c) (calls c)
  of_answer : (kind : Answer) (words : List ℕ) → IsSaid (deeds.gave kind words) (answers kind words)
  of_close : IsSaid deeds.asked asks

-- what the program is told by an event, and of which number
abbrev pub number_of : Event → ℕ
number_of (events.Opened number tag) = number
number_of (events.Call number tag program version procedure m) = number
number_of (events.Answer number tag answer m) = number
number_of (events.Closed number tag why) = number

abbrev pub news_of : Event → Happening
news_of (events.Opened number tag) = announces
news_of (events.Call number tag program version procedure m) = hands m
news_of (events.Answer number tag answer m) = hands m
news_of (events.Closed number tag why) = tells why

-- what is said at each number, where this is said at one alone
abbrev pub said_at : (number : ℕ) → Happening → (k : ℕ) → List Happening
said_at number x k = if k == number then x ∷ [] else []

abbrev pub said_nothing : (k : ℕ) → List Happening
said_nothing k = []

-- a function of a host, and what is said by it at each number. Nothing is said by one that is refused, by one that has nothing to tell, and by
-- those that take packets in, give them out, serve, or set a network or a tag.
pub data HostSays (h j : Host) : (ℕ → List Happening) → Type 0 where
  has_connected : (now way socket : ℕ) (peer : Address) (number : ℕ) → ConnectsTo now way socket peer (Ok number) h j
      → HostSays h j (said_at number connects)
  has_said : (now number : ℕ) (deed : Deed) (x : Happening) → IsSaid deed x → Turn now number deed (Ok tt) h j → HostSays h j (said_at number x)
  has_abandoned : (number : ℕ) → Abandons number (Ok tt) h j → HostSays h j (said_at number abandons)
  was_told : (event : Event) → TellsNext (Some event) h j → HostSays h j (said_at (number_of event) (news_of event))
  is_refused : (now number : ℕ) (deed : Deed) (fault : HostFault) → Turn now number deed (Err fault) h j → HostSays h j said_nothing
  abandons_none : (number : ℕ) (fault : HostFault) → Abandons number (Err fault) h j → HostSays h j said_nothing
  finds_no_room : (now way socket : ℕ) (peer : Address) (fault : HostFault) → ConnectsTo now way socket peer (Err fault) h j
      → HostSays h j said_nothing
  tells_nothing : TellsNext None h j → HostSays h j said_nothing
  takes_in : (now way : ℕ) (bytes : List ℕ) (result : Bool) → TakesIn now way bytes result h j → HostSays h j said_nothing
  gives_out : (now : ℕ) (result : Result (Option Outgoing) HostFault) → GivesOut now result h j → HostSays h j said_nothing
  serves : (socket : ℕ) (programs : List Program) (result : Result (Unit {0}) HostFault) → ServesAt socket programs result h j
      → HostSays h j said_nothing
  moves : (network : ℕ) → MovesTo network h j → HostSays h j said_nothing
  tags : (number tag : ℕ) (result : Result (Unit {0}) HostFault) → Tags number tag result h j → HostSays h j said_nothing

-- ---- what happens at a number

-- the connection in a place, if there is one
abbrev pub guest_in : Option (Option Guest) → Option Guest
guest_in None = None
guest_in (Some place) = place

-- a connection that was not closed is closed now
abbrev pub closed_since : (was is : Option Why) → List Happening
closed_since None None = []
closed_since None (Some why) = closes why ∷ []
closed_since (Some first) is = []

-- a connection came to a number, unseen where a peer opened it; and it may be closed already
abbrev pub arriving : Guest → List Happening
arriving g = (if is_some (peer_that_opened g.connection) then opens ∷ [] else []) ++ closed_since None g.connection.closed

-- a connection left a number, which became free, unseen unless that was said: the program abandoned the connection
abbrev pub leaving : (said : List Happening) → List Happening
leaving said = if list_any is_going said then [] else goes ∷ []

-- what happened at a number by one function: this was said there, and the one connection, if any, had the number before, and the other
-- behind it. A connection with another identifier of ours is another one.
abbrev pub between : (said : List Happening) → (old new : Option Guest) → List Happening
between said None None = said
between said None (Some h) = said ++ arriving h
between said (Some g) None = said ++ leaving said
between said (Some g) (Some h) =
    if id_of h == id_of g then said ++ closed_since g.connection.closed h.connection.closed else goes ∷ (said ++ arriving h)

-- what happened at a number by one function, read off the place that has the number
abbrev pub happened_at : (said : List Happening) → (old new : Option (Option Guest)) → List Happening
happened_at said old new = between said (guest_in old) (guest_in new)

-- functions of a host, called in any order, led from a new host to this one. Meanwhile this was said at each number, and this happened there:
-- what happened by one function, then by the next, as what was said and the places before and behind it show.
pub data HasLived : Host → (said happened : ℕ → List Happening) → Type 0 where
  begins : {h : Host} (network : ℕ) (host : List ℕ) (settings : Settings) (secret : List ℕ) → IsNewHost network host settings secret h
      → HasLived h (λ k. []) (λ k. [])
  goes_on : {h j : Host} {said happened more : ℕ → List Happening} → HasLived h said happened → HostSays h j more
      → HasLived j (λ k. said k ++ more k) (λ k. happened k ++ happened_at (more k) (slice_get h.guests.items k) (slice_get j.guests.items k))

-- ---- what the program sees

-- the connection is such: who opened it, why it is closed, and whether the program was told that
pub record IsSeenAs (d : Dialogue) (g : Guest) : Type 0 where
  pub ours : is_none (peer_that_opened g.connection) ≡ d.ours
  pub closed : g.connection.closed ≡ d.closed
  pub told : g.connection.told ≡ d.told

-- the place with the number is such
abbrev pub IsSeen : View → Option (Option Guest) → Type 0
IsSeen free None = Unit {0}
IsSeen free (Some None) = Unit {0}
IsSeen free (Some (Some g)) = ⊥
IsSeen (held d) None = ⊥
IsSeen (held d) (Some None) = ⊥
IsSeen (held d) (Some (Some g)) = IsSeenAs d g

-- what happened leads from the free number to what the number is now, and this was said in it
pub record NumberHasHistory (place : Option (Option Guest)) (said happened : List Happening) : Type 0 where
  pub view : View
  pub seen : IsSeen view place
  pub course : Course free happened view
  pub is : filter is_said happened ≡ said
