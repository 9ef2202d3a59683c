-- Where a connection is over.
use Rattle.std.specs.Prelude.{ℕ, ◌==◌, ◌||◌, ◌&&◌, not, Bool, true, false, if◌then◌else◌}
use Rattle.std.specs.Option.{is_some}
use Rattle.xns_spp.specs.Datastreams.{end_reply_stream, end_stream}
use Rattle.xns_spp.specs.Header.{is_system}
use Rattle.xns_spp.specs.declared.header.Header.{Header}
use Rattle.xns_calls.specs.declared.closing.Closing.{Closing}
use Rattle.xns_calls.specs.declared.closing.Closing.TheVariants.{Open, End, EndReply}
use Rattle.xns_calls.specs.declared.connection.Connection.{Connection}
use Rattle.xns_calls.specs.declared.side.Side.{Side}
use Rattle.xns_calls.specs.Exchange.{brings_new}

-- items of the datastreams of End and EndReply close a connection (XSIS 028112, Sequenced Packet Protocol)
abbrev pub closes : ℕ → Bool
closes stream = stream == end_stream || stream == end_reply_stream

abbrev pub with_end_said : Closing → Closing
with_end_said Open = End
with_end_said End = End
with_end_said EndReply = EndReply

-- with what a flow has closed its connection, once one more such item has come
abbrev pub closed_with : ℕ → Closing → Closing
closed_with stream closing = if stream == end_reply_stream then EndReply else with_end_said closing

abbrev pub has_closed : Closing → Bool
has_closed Open = false
has_closed End = true
has_closed EndReply = true

abbrev pub has_replied : Closing → Bool
has_replied Open = false
has_replied End = false
has_replied EndReply = true

-- one of the two flows of a connection
abbrev pub side_in : Bool → Connection → Side
side_in true connection = connection.second
side_in false connection = connection.first

abbrev pub closing_in : Bool → Connection → Closing
closing_in true connection = connection.second_closing
closing_in false connection = connection.first_closing

-- a data packet of the flow begins it, or brings an item that is no repeat
abbrev pub brings_new_item : Bool → Header → Connection → Bool
brings_new_item is_behind f connection = not (is_system f) && brings_new (side_in is_behind connection).track f.sequence

abbrev pub with_closing : Bool → Closing → Connection → Connection
with_closing true closing connection = record connection { second_closing = closing }
with_closing false closing connection = record connection { first_closing = closing }

-- with what the flow has closed the connection, once this packet of it was captured
abbrev pub closing_with : Bool → Header → Connection → Closing
closing_with is_behind f connection =
    if closes f.stream && brings_new_item is_behind f connection then closed_with f.stream (closing_in is_behind connection)
    else closing_in is_behind connection

-- a flow has closed the connection, or nothing of it was captured
abbrev pub has_ended : Side → Closing → Bool
has_ended side closing = not (is_some side.track) || has_closed closing

-- each of the flows that were captured has closed the connection, and one of them with EndReply
abbrev pub is_closed_both_ways : Connection → Bool
is_closed_both_ways connection =
    has_ended connection.first connection.first_closing && has_ended connection.second connection.second_closing
    && (has_replied connection.first_closing || has_replied connection.second_closing)
