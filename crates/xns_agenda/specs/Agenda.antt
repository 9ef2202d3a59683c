-- The timers and turns of all connections: what is to be done next.
use Rattle.std.specs.Prelude.{◌≡◌, ℕ, true, false, List, length, Option, Some, None, replicate, slice_get, slice_set}
use Rattle.xns_agenda.specs.Times.{HasEarliest, IsBy, IsEarliest}
use Rattle.xns_agenda.specs.Turns.{HasNoTurn, Line, empty_line, has_turn, lined_up, with_turn}
use Rattle.xns_agenda.specs.declared.facts.Facts.{Facts}
use Rattle.xns_agenda.specs.declared.facts.TheConstants.Facts.{NONE}
use Rattle.xns_agenda.specs.declared.places.Places.{Places}
use Rattle.xns_agenda.specs.declared.way.Way.{Way}
use Rattle.xns_agenda.specs.declared.way.Way.TheVariants.{Lingers, Stranger, Nobody}

-- what is known of connections by their numbers: when something is due; which may have a packet to send; which may have
-- an event; when a closed one that lingers is forgotten; when a stranger was last heard; and which numbers no connection has.
-- Where memory was refused for a packet and nothing was noted since, `short` is when packets are asked for again
pub record Plan : Type 0 where
  pub dues : List (Option ℕ)
  pub packets : Line
  pub events : Line
  pub closed : List (Option ℕ)
  pub strangers : List (Option ℕ)
  pub free : Line
  pub short : Option ℕ

-- the plan that these timers, turns, times by which one gives way, and free numbers make
abbrev pub plan_of : (dues : List (Option ℕ)) (packets events : Line) → Places → (free : Line) (short : Option ℕ) → Plan
plan_of dues packets events places free short = record {
  dues = dues;
  packets = packets;
  events = events;
  closed = places.closed;
  strangers = places.strangers;
  free = free;
  short = short;
}

-- a plan is for so many numbers
pub record IsFor (a : Plan) (most : ℕ) : Type 0 where
  pub dues : length a.dues ≡ most
  pub packets : length a.packets.tickets ≡ most
  pub events : length a.events.tickets ≡ most
  pub closed : length a.closed ≡ most
  pub strangers : length a.strangers ≡ most
  pub free : length a.free.tickets ≡ most

-- the plan for so many numbers, none of which a connection has: nothing is to be done, and the numbers are free, the lowest first
abbrev pub new_agenda : ℕ → Plan
new_agenda most = record {
  dues = replicate most None;
  packets = empty_line most;
  events = empty_line most;
  closed = replicate most None;
  strangers = replicate most None;
  free = lined_up most most;
  short = None;
}

-- the plan once these facts are noted of the connection with this number
abbrev pub noted : Plan → ℕ → Facts → Plan
noted a number f = record a {
  dues = slice_set a.dues number f.due;
  packets = with_turn a.packets number f.has_packet;
  events = with_turn a.events number f.has_event;
  closed = slice_set a.closed number f.forgotten_at;
  strangers = slice_set a.strangers number f.stranger_heard_at;
  short = None;
}

-- the plan once no connection has this number any longer
abbrev pub released : Plan → ℕ → Plan
released a number = record {
  dues = slice_set a.dues number None;
  packets = with_turn a.packets number false;
  events = with_turn a.events number false;
  closed = slice_set a.closed number None;
  strangers = slice_set a.strangers number None;
  free = with_turn a.free number true;
  short = None;
}

-- the plan has these facts of the connection with this number, except whether there may be an event
pub record IsNoted (a : Plan) (number : ℕ) (f : Facts) : Type 0 where
  pub due : slice_get a.dues number ≡ Some f.due
  pub packet : has_turn a.packets number ≡ f.has_packet
  pub closed : slice_get a.closed number ≡ Some f.forgotten_at
  pub stranger : slice_get a.strangers number ≡ Some f.stranger_heard_at

-- no connection has this number, and nothing is to be done at it
pub record HasNobody (a : Plan) (number : ℕ) : Type 0 where
  pub facts : IsNoted a number NONE
  pub event : has_turn a.events number ≡ false
  pub free : has_turn a.free number ≡ true

-- when the connections that have a turn are asked for a packet: at once, or where memory was refused, at this time
abbrev pub asked_at : Option ℕ → ℕ
asked_at None = 0
asked_at (Some time) = time

-- something is to be done at this time: packets are asked for, and there may be one; or the time is at once, and there may be an
-- event; or something is due
pub data IsWantedAt (packets events : Line) (dues : List (Option ℕ)) (short : Option ℕ) : ℕ → Type 0 where
  packet_waits : (k : ℕ) → has_turn packets k ≡ true → IsWantedAt packets events dues short (asked_at short)
  event_waits : (k : ℕ) → has_turn events k ≡ true → IsWantedAt packets events dues short 0
  is_due : (k t : ℕ) → slice_get dues k ≡ Some (Some t) → IsWantedAt packets events dues short t

-- the time is the first at which something is to be done; there is none where nothing is to be done
pub record IsWake (packets events : Line) (dues : List (Option ℕ)) (short time : Option ℕ) : Type 0 where
  pub packet : (k : ℕ) → has_turn packets k ≡ true → IsBy time (asked_at short)
  pub event : (k : ℕ) → has_turn events k ≡ true → time ≡ Some 0
  pub due : HasEarliest dues time
  pub wanted : (t : ℕ) → time ≡ Some t → IsWantedAt packets events dues short t

-- the connection that gives way to a new one: the one that lingers longest; where none lingers, the stranger that is silent longest
pub data GivesWay (closed strangers : List (Option ℕ)) : ℕ → Type 0 where
  longest_closed : (k t : ℕ) → IsEarliest closed k t → GivesWay closed strangers k
  longest_silent : (k t : ℕ) → HasEarliest closed None → IsEarliest strangers k t → GivesWay closed strangers k

-- the number that a new connection gets: a free one; where no number is free, that of the connection that gives way
pub data GetsNumber (free : Line) (closed strangers : List (Option ℕ)) : ℕ → Type 0 where
  free_number : (k : ℕ) → has_turn free k ≡ true → GetsNumber free closed strangers k
  given_way : (k : ℕ) → HasNoTurn free → GivesWay closed strangers k → GetsNumber free closed strangers k

-- no number is free, and no connection gives way
pub record HasNoNumber (free : Line) (closed strangers : List (Option ℕ)) : Type 0 where
  pub nobody : HasNoTurn free
  pub lingers : HasEarliest closed None
  pub silent : HasEarliest strangers None

-- the number of the connection that gives way, if one does
abbrev pub number_in : Way → Option ℕ
number_in (Lingers number forgotten_at) = Some number
number_in (Stranger number heard_at) = Some number
number_in Nobody = None
