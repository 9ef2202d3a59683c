-- The ends of a connection as numbers, by which it is found.
use Rattle.std.specs.Prelude.{if◌then◌else◌, ℕ, ◌*◌, ◌^◌}
use Rattle.std.specs.Int.Bits.{bit_xor}
use Rattle.std.specs.Ordering.{is_gt}
use Rattle.std.specs.declared.cmp.Ordering.{Ordering}
use Rattle.xns_dump.specs.Flows.Places.{IsPlace, host_and_socket}
use Rattle.xns_dump.specs.declared.flows.flow.Flow.{Flow}
use Rattle.xns_dump.specs.declared.flows.place.Place.{Place}
use Rattle.xns_calls.specs.contracts.connection_key.ConnectionKeyOrd.TheImpl as key_ord
use Rattle.xns_calls.specs.contracts.end_key.EndKeyOrd.TheImpl as end_ord
use Rattle.xns_calls.specs.declared.connection_key.ConnectionKey.{ConnectionKey}
use Rattle.xns_calls.specs.declared.end_key.EndKey.{EndKey}

-- how the map orders keys
abbrev pub key_cmp : ConnectionKey → ConnectionKey → Ordering
key_cmp = (key_ord.ghosts).cmp

-- how ends are ordered
abbrev pub end_cmp : EndKey → EndKey → Ordering
end_cmp = (end_ord.ghosts).cmp

abbrev pub end_key : Place → EndKey
end_key place = record { host_and_socket = host_and_socket place; identifier = place.identifier }

-- the numbers of two ends in one, the identifiers in the highest bits
abbrev pub mixed : EndKey → EndKey → ℕ
mixed a b = bit_xor (bit_xor a.host_and_socket b.host_and_socket) (bit_xor a.identifier b.identifier * 2 ^ 48)

abbrev pub key_of_ends : EndKey → EndKey → ConnectionKey
key_of_ends a b = record {
  mixed = mixed a b;
  lesser = a.host_and_socket;
  lesser_identifier = a.identifier;
  greater_identifier = b.identifier;
}

-- two ends, the lesser first
abbrev pub lesser_first : EndKey → EndKey → ConnectionKey
lesser_first a b = if is_gt (end_cmp a b) then key_of_ends b a else key_of_ends a b

-- the key of a flow's connection: its two ends, whichever sends
abbrev pub connection_key : Flow → ConnectionKey
connection_key flow = lesser_first (end_key flow.source) (end_key flow.target)

-- both ends are places
pub record IsFlow (flow : Flow) : Type 0 where
  pub source : IsPlace flow.source
  pub target : IsPlace flow.target
