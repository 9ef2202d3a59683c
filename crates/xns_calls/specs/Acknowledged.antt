-- When what is acknowledged takes effect.
use Rattle.std.specs.Prelude.{ℕ, ◌-◌, ◌==◌, nat_lt, max, not, Bool, true, false, if◌then◌else◌, List, [], ◌∷◌, ◌++◌, length, map, slice_get, Option, Some, None, option_map}
use Rattle.std.specs.Option.{unwrap_or}
use Rattle.xns_spp.specs.Ends.{most_pending}
use Rattle.xns_spp.specs.declared.header.Header.{Header}
use Rattle.xns_calls.specs.declared.ahead.Ahead.{Ahead}
use Rattle.xns_calls.specs.declared.connection.Connection.{Connection}
use Rattle.xns_calls.specs.declared.due.Due.{Due}
use Rattle.xns_calls.specs.declared.given.Given.{Given}
use Rattle.xns_calls.specs.declared.track.Track.{Track}
use Rattle.xns_calls.specs.Numbers.{near}
use Rattle.xns_calls.specs.Over.{closing_with, side_in, with_closing}
use Rattle.xns_calls.specs.Repeats.{repeats_with, with_repeats}

-- ---- what is kept of a flow: acknowledgements that were captured ahead of its items

-- an acknowledgement takes effect with this packet of its connection behind it
abbrev pub most_waited : ℕ
most_waited = most_pending

-- an acknowledgement waits for a packet less
abbrev pub one_nearer : Ahead → Ahead
one_nearer a = record a { left = a.left - 1 }

-- a packet more was captured
abbrev pub nearer : List Ahead → List Ahead
nearer kept = map one_nearer kept

-- the number that takes effect: the first, where it waits for no packet more
abbrev pub effective : List Ahead → Option ℕ
effective [] = None
effective (a ∷ rest) = if a.left == 0 then Some a.number else None

abbrev pub waiting : List Ahead → List Ahead
waiting [] = []
waiting (a ∷ rest) = if a.left == 0 then rest else a ∷ rest

abbrev pub last_ahead : List Ahead → ℕ
last_ahead kept = unwrap_or (option_map (λ a. a.number) (slice_get kept (length kept - 1))) 0

abbrev pub beyond : ℕ → Option ℕ → Option ℕ
beyond most None = None
beyond most (Some number) = if nat_lt most number then Some number else None

-- what a field acknowledges of a flow, where that is more than its next item and more than the last number that is kept
abbrev pub new_ahead : Option Track → List Ahead → ℕ → Option ℕ
new_ahead None kept field = None
new_ahead (Some track) kept field = beyond (max track.next (last_ahead kept)) (near track.next field)

abbrev pub with_ahead : Option ℕ → List Ahead → List Ahead
with_ahead None kept = kept
with_ahead (Some number) kept = kept ++ record { left = most_waited; number = number } ∷ []

-- what is kept behind packets of the connection, each with what it acknowledges ahead of the flow's items
abbrev pub kept_behind : List (Option ℕ) → List Ahead → List Ahead
kept_behind [] kept = kept
kept_behind (number ∷ packets) kept = kept_behind packets (with_ahead number (waiting (nearer kept)))

-- what the packet acknowledged ahead that stands 64 before the next one
abbrev pub ago : List (Option ℕ) → Option ℕ
ago packets = if nat_lt (length packets) most_waited then None else unwrap_or (slice_get packets (length packets - most_waited)) None

-- ---- the two flows of a connection

abbrev pub aheads_in : Bool → Connection → List Ahead
aheads_in true connection = connection.second_ahead
aheads_in false connection = connection.first_ahead

-- what a packet of a flow acknowledges ahead of the items of the flow behind
abbrev pub ahead_of : Bool → Header → Connection → Option ℕ
ahead_of is_behind f connection = new_ahead (side_in (not is_behind) connection).track (aheads_in (not is_behind) connection) f.acknowledge

-- nothing takes effect of a flow that has not begun
abbrev pub if_begun : Option Track → Option ℕ → Option ℕ
if_begun None number = None
if_begun (Some track) number = number

-- the number of a flow that takes effect with the next packet of the connection
abbrev pub due_of : Bool → Connection → Option ℕ
due_of is_behind connection = if_begun (side_in is_behind connection).track (effective (nearer (aheads_in is_behind connection)))

-- the greatest number that has taken effect, once this one does
abbrev pub given_with : Option ℕ → ℕ → ℕ
given_with number given = max given (unwrap_or number 0)

-- a packet more of the connection was captured
abbrev pub nearer_by_one : Connection → Connection
nearer_by_one connection = record connection {
  first_ahead = waiting (nearer connection.first_ahead);
  first_given = given_with (effective (nearer connection.first_ahead)) connection.first_given;
  second_ahead = waiting (nearer connection.second_ahead);
  second_given = given_with (effective (nearer connection.second_ahead)) connection.second_given;
}

-- up to where items of a flow and of the one behind it are waited for no longer
abbrev pub given_in : Bool → Connection → Given
given_in true connection = record { own = connection.second_given; other = connection.first_given }
given_in false connection = record { own = connection.first_given; other = connection.second_given }

-- the number that a field acknowledges of a flow
abbrev pub acknowledged_of : Option Track → ℕ → Option ℕ
acknowledged_of None field = None
acknowledged_of (Some track) field = near track.next field

-- what a packet of a flow acknowledges of the flow behind
abbrev pub acknowledged_in : Bool → Header → Connection → Option ℕ
acknowledged_in is_behind f connection = acknowledged_of (side_in (not is_behind) connection).track f.acknowledge

-- what takes effect with a packet of a flow, and what it acknowledges itself
abbrev pub due_in : Bool → Header → Connection → Due
due_in is_behind f connection = record {
  own = due_of is_behind connection;
  other = due_of (not is_behind) connection;
  acknowledged = acknowledged_in is_behind f connection;
  given = given_in is_behind (nearer_by_one connection);
}

-- a number that a packet of a flow acknowledges of the flow behind is kept
abbrev pub with_number : Bool → Option ℕ → Connection → Connection
with_number true number connection = record connection { first_ahead = with_ahead number connection.first_ahead }
with_number false number connection = record connection { second_ahead = with_ahead number connection.second_ahead }

-- what is kept beside the flows once a packet of one of them was captured
abbrev pub noted_beside : Bool → Header → Connection → Connection
noted_beside is_behind f connection =
    with_repeats is_behind (repeats_with is_behind f connection)
    (with_closing is_behind (closing_with is_behind f connection)
    (with_number is_behind (ahead_of is_behind f connection) (nearer_by_one connection)))
