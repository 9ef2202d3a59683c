-- A connection that no end has closed.
use Rattle.std.specs.Prelude.{◌≡◌, ◌≢◌, ◌||◌, ℕ, ◌+◌, Bool, List, [], ◌∷◌, Option, Some, None}
use Rattle.xns_spp.specs.Datastreams.{end_reply_stream}
use Rattle.xns_dump.specs.Flows.{flow_of}
use Rattle.xns_calls.specs.Calls.{line_taken}
use Rattle.xns_calls.specs.Capture.{Known, place_of}
use Rattle.xns_calls.specs.Naming.{Programs}
use Rattle.xns_calls.specs.Input.{Arrival, arrival}
use Rattle.xns_calls.specs.Over.{has_replied}
use Rattle.xns_calls.specs.declared.connection.Connection.{Connection}

-- a flow of the connection has closed it with EndReply
abbrev pub is_answered : Connection → Bool
is_answered connection = has_replied connection.first_closing || has_replied connection.second_closing

-- a packet of the connection at a place, if one came, has an item that is no EndReply
abbrev pub AnswersNothing : ℕ → Option Arrival → Known → Type 0
AnswersNothing i None k = Unit {0}
AnswersNothing i (Some a) k = place_of (flow_of a.0 a.1) k.connections ≡ Some i → a.1.stream ≢ end_reply_stream

-- no packet of the connection at a place has an EndReply in these lines, of which the first has number n
abbrev pub IsNotAnswered : Programs → ℕ → ℕ → Known → List (List ℕ) → Type 0
IsNotAnswered programs i n k [] = Unit {0}
IsNotAnswered programs i n k (line ∷ lines) = AnswersNothing i (arrival line) k × IsNotAnswered programs i (n + 1) (line_taken programs n line k) lines
