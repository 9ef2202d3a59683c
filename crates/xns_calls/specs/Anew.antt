-- What begins a connection anew.
use Rattle.std.specs.Prelude.{◌==◌, ◌&&◌, not, Bool}
use Rattle.xns_spp.specs.Header.{is_system}
use Rattle.xns_spp.specs.declared.header.Header.{Header}
use Rattle.xns_calls.specs.declared.connection.Connection.{Connection}
use Rattle.xns_calls.specs.Over.{closes, is_closed_both_ways}

-- a data packet with sequence field 0 that closes nothing
abbrev pub begins_items : Header → Bool
begins_items f = not (is_system f) && f.sequence == 0 && not (closes f.stream)

-- a packet that begins items, where the connection of its ends is over, begins another one of the same ends
abbrev pub begins_anew : Header → Connection → Bool
begins_anew f connection = begins_items f && is_closed_both_ways connection
