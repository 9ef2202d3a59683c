-- How many items a flow keeps, which, and how long.
use Rattle.std.specs.Prelude.{◌≡◌, ℕ, ◌+◌, ◌<◌, ◌≤◌, ◌==◌, ◌⊎◌, Bool, true, false, not, if◌then◌else◌, List, [], ◌∷◌, ◌++◌, length, slice_get, Option, Some, None}
use Rattle.xns_idp.specs.Packet.{PacketModel}
use Rattle.xns_spp.specs.Ends.{most_pending}
use Rattle.xns_spp.specs.Header.{is_system}
use Rattle.xns_spp.specs.declared.header.Header.{Header}
use Rattle.xns_dump.specs.Flows.{flow_of}
use Rattle.xns_dump.specs.declared.flows.flow.Flow.{Flow}
use Rattle.xns_calls.specs.Acknowledged.{acknowledged_in, due_in, given_in, most_waited, noted_beside}
use Rattle.xns_calls.specs.Anew.{begins_anew}
use Rattle.xns_calls.specs.Calls.{known_of, line_taken, nothing_known}
use Rattle.xns_calls.specs.Capture.{Known, after_in, forgotten, heading_at, is_behind_in, new_connection, place_of, repeats_told, scene_in, with_new}
use Rattle.xns_calls.specs.Exchange.{Scene, carried}
use Rattle.xns_calls.specs.Input.{Arrival, arrival}
use Rattle.xns_calls.specs.Naming.{Programs}
use Rattle.xns_calls.specs.Numbers.{most_early}
use Rattle.xns_calls.specs.Origins.{line_origin}
use Rattle.xns_calls.specs.Over.{side_in}
use Rattle.xns_calls.specs.Read.{handled}
use Rattle.xns_calls.specs.declared.carried.Carried.{Carried}
use Rattle.xns_calls.specs.declared.connection.Connection.{Connection}
use Rattle.xns_calls.specs.declared.early.Early.{Early}
use Rattle.xns_calls.specs.declared.origin.Origin.{Origin}
use Rattle.xns_calls.specs.declared.side.Side.{Side}
use Rattle.xns_calls.specs.declared.track.Track.{Track}

-- the numbers of the items go up from the least one on, and none is above the most
abbrev pub AreBetween : ℕ → ℕ → List Early → Type 0
AreBetween least most [] = Unit {0}
AreBetween least most (early ∷ rest) = (least ≤ early.number) × (early.number ≤ most) × AreBetween (early.number + 1) most rest

-- behind whatever lines, the items that a flow keeps have numbers from the next one on, one for each, up to 63 above the next one: the flow
-- keeps 64 of them at most
pub record FewItemsAreKept : Type 0 where
  pub near : (programs : Programs) (lines : List (List ℕ)) (i : ℕ) (c : Connection) (is_behind : Bool) (track : Track)
      → slice_get (known_of programs lines).connections i ≡ Some c → (side_in is_behind c).track ≡ Some track
      → AreBetween track.next (track.next + most_early) track.early
  pub few : (programs : Programs) (lines : List (List ℕ)) (i : ℕ) (c : Connection) (is_behind : Bool) (track : Track)
      → slice_get (known_of programs lines).connections i ≡ Some c → (side_in is_behind c).track ≡ Some track → length track.early ≤ most_pending

-- ---- the packets of one connection

-- a packet: the line or frame that brought it, whether it is of the flow that begins behind the other, its header and its content, and the
-- two flows once it was handled
pub record Handled : Type 0 where
  pub origin : Origin
  pub is_behind : Bool
  pub sent : PacketModel
  pub header : Header
  pub content : List ℕ
  pub first : Side
  pub second : Side

-- a connection once a packet was handled
abbrev pub with_handled : Handled → Connection → Connection
with_handled packet connection = record (noted_beside packet.is_behind packet.header connection) { first = packet.first; second = packet.second }

abbrev pub with_all : List Handled → Connection → Connection
with_all [] connection = connection
with_all (packet ∷ more) connection = with_all more (with_handled packet connection)

-- a connection behind its packets, whatever its flows read with each
abbrev pub behind_all : ℕ → Flow → List Handled → Connection
behind_all number flow packets = with_all packets (new_connection number flow)

-- what a packet acknowledges of the flow behind
abbrev pub acknowledges : Handled → Connection → Option ℕ
acknowledges packet connection = acknowledged_in packet.is_behind packet.header connection

-- the flow behind that of a packet
abbrev pub track_behind : Handled → Connection → Option Track
track_behind packet connection = (side_in (not packet.is_behind) connection).track

-- what a packet of one of its flows leaves of a connection
abbrev pub scene_behind : Origin → Bool → PacketModel → Header → List ℕ → Connection → Known → Scene
scene_behind n is_behind packet f content c k =
    handled (heading_at n c.number is_behind) (due_in is_behind f c) packet f content (scene_in is_behind c (repeats_told n is_behind f c k))

-- a flow of a scene, or the one behind it (true)
abbrev pub side_seen : Bool → Scene → Side
side_seen true s = s.other
side_seen false s = s.own

-- a packet of a flow, with the scene that it leaves, seen from that flow
abbrev pub handled_by : Origin → Bool → PacketModel → Header → List ℕ → Scene → Handled
handled_by n is_behind packet f content s = record {
  origin = n;
  is_behind = is_behind;
  sent = packet;
  header = f;
  content = content;
  first = side_seen is_behind s;
  second = side_seen (not is_behind) s;
}

-- a packet of one of its flows, as a connection handles it
abbrev pub handled_in : Origin → Bool → PacketModel → Header → List ℕ → Connection → Known → Handled
handled_in n is_behind packet f content c k = handled_by n is_behind packet f content (scene_behind n is_behind packet f content c k)

-- a packet was handled as one of a connection
pub record IsHandled (packet : Handled) (connection : Connection) : Type 0 where
  pub known : Known
  pub is : packet ≡ handled_in packet.origin packet.is_behind packet.sent packet.header packet.content connection known

-- packets were handled one after the other, the first as one of a connection, and each of the others as one of what the last one left
abbrev pub AreHandled : List Handled → Connection → Type 0
AreHandled [] connection = Unit {0}
AreHandled (packet ∷ more) connection = IsHandled packet connection × AreHandled more (with_handled packet connection)

-- the item of a packet, with what the packet acknowledges and the line or frame that brought it
abbrev pub carried_item : Handled → Connection → Carried
carried_item packet connection =
    carried (heading_at packet.origin connection.number packet.is_behind) (acknowledges packet connection) packet.header packet.content

-- an item of a flow came with one of the packets that were handled as those of a connection, which is a packet of the flow
pub record CameWith (is_behind : Bool) (packets : List Handled) (connection : Connection) (item : Carried) : Type 0 where
  pub before : List Handled
  pub packet : Handled
  pub more : List Handled
  pub are : packets ≡ before ++ packet ∷ more
  pub own : packet.is_behind ≡ is_behind
  pub brought : item ≡ carried_item packet (with_all before connection)

-- ---- the packets of the lines of an input

-- a packet of the flow, as a connection of the flow handles it
abbrev pub handled_of : Origin → Flow → Arrival → Connection → Known → Handled
handled_of n flow a c k = handled_in n (is_behind_in flow c) a.0 a.1 a.2 c k

-- the packets of the connection at a place, behind one more packet of it: one that begins the connection anew is the first of the new one's
abbrev pub packets_there : ℕ → Origin → Flow → Arrival → Option Connection → Known → List Handled → List Handled
packets_there i n flow a None k packets = packets
packets_there i n flow a (Some c) k packets =
    if begins_anew a.1 c then handled_of n flow a (new_connection (k.count + 1) flow) (forgotten n i flow c k) ∷ []
    else packets ++ handled_of n flow a c k ∷ []

-- the packets of the connection at place i, behind a packet of the connection at the other place, or of one that it begins
abbrev pub packets_place : ℕ → Origin → Flow → Arrival → Option ℕ → Known → List Handled → List Handled
packets_place i n flow a (Some j) k packets = if i == j then packets_there i n flow a (slice_get k.connections i) k packets else packets
packets_place i n flow a None k packets =
    if is_system a.1 then packets
    else (if i == length k.connections then handled_of n flow a (new_connection (k.count + 1) flow) (with_new flow k) ∷ [] else packets)

abbrev pub packets_at : ℕ → Origin → Option Arrival → Known → List Handled → List Handled
packets_at i n None k packets = packets
packets_at i n (Some a) k packets = packets_place i n (flow_of a.0 a.1) a (place_of (flow_of a.0 a.1) k.connections) k packets

abbrev pub handled_from : Programs → ℕ → ℕ → Known → List Handled → List (List ℕ) → List Handled
handled_from programs i n k packets [] = packets
handled_from programs i n k packets (line ∷ lines) =
    handled_from programs i (n + 1) (line_taken programs n line k) (packets_at i (line_origin programs n) (arrival line) (record k { text = [] }) packets) lines

-- the packets of the connection at place i behind all lines, in order: those since it began, each of a line of the input
abbrev pub handled_packets : Programs → ℕ → List (List ℕ) → List Handled
handled_packets programs i lines = handled_from programs i 1 nothing_known [] lines

-- ---- what holds of them

-- behind whatever lines each connection that is known has come from a new one by its packets in these lines, handled one after the other, as
-- the packets of the connection are; what is read with one goes by what is given behind it
pub record PacketsAreHandled : Type 0 where
  pub known : (programs : Programs) (lines : List (List ℕ)) (i : ℕ) (c : Connection) → slice_get (known_of programs lines).connections i ≡ Some c
      → AreHandled (handled_packets programs i lines) (new_connection c.number c.flow) × (c ≡ behind_all c.number c.flow (handled_packets programs i lines))
  pub connection : (n : Origin) (i : ℕ) (is_behind : Bool) (packet : PacketModel) (f : Header) (content : List ℕ) (c : Connection) (k : Known) → slice_get k.connections i ≡ Some c
      → slice_get (after_in n i is_behind packet f content c k).connections i ≡ Some (with_handled (handled_in n is_behind packet f content c k) c)
  pub given : (n : Origin) (is_behind : Bool) (packet : PacketModel) (f : Header) (content : List ℕ) (c : Connection) (s : Scene)
      → (due_in is_behind f c).given ≡ given_in is_behind (with_handled (handled_by n is_behind packet f content s) c)

-- the items of the flow behind that a packet acknowledges were read when it came, or are waited for no longer behind the 64th packet of
-- the connection after it. Behind that packet no item that waits for no more than these comes next of its flow and is still kept. So an item
-- that comes next of its flow and is still kept came with a packet of the flow after which fewer than 64 packets of the connection came: in
-- an input, with a packet of one of its lines, behind which fewer than 64 packets of the connection came in lines
pub record NextItemsAreNotHeldLonger : Type 0 where
  pub packets : PacketsAreHandled
  pub waited : (number : ℕ) (flow : Flow) (before more : List Handled) (packet : Handled) (track : Track) (n : ℕ)
      → track_behind packet (behind_all number flow before) ≡ Some track → acknowledges packet (behind_all number flow before) ≡ Some n → most_waited ≤ length more
      → (n ≤ track.next) ⊎ (n ≤ (given_in packet.is_behind (behind_all number flow (before ++ packet ∷ more))).other)
  pub held : (number : ℕ) (flow : Flow) (before more : List Handled) (packet : Handled) (track : Track) (early : Early) (rest : List Early)
      → AreHandled (before ++ packet ∷ more) (new_connection number flow) → most_waited ≤ length more
      → early.item.acknowledged ≡ acknowledges packet (behind_all number flow before)
      → (side_in packet.is_behind (behind_all number flow (before ++ packet ∷ more))).track ≡ Some track
      → track.early ≡ early ∷ rest → early.number ≤ track.next → ⊥
  pub late : (number : ℕ) (flow : Flow) (packets : List Handled) (is_behind : Bool) (track : Track) (early : Early) (rest : List Early)
      → AreHandled packets (new_connection number flow) → (side_in is_behind (behind_all number flow packets)).track ≡ Some track
      → track.early ≡ early ∷ rest → early.number ≤ track.next
      → (came : CameWith is_behind packets (new_connection number flow) early.item) × (length came.more < most_waited)
  pub lines : (programs : Programs) (lines : List (List ℕ)) (i : ℕ) (c : Connection) (is_behind : Bool) (track : Track) (early : Early) (rest : List Early)
      → slice_get (known_of programs lines).connections i ≡ Some c → (side_in is_behind c).track ≡ Some track
      → track.early ≡ early ∷ rest → early.number ≤ track.next
      → (came : CameWith is_behind (handled_packets programs i lines) (new_connection c.number c.flow) early.item) × (length came.more < most_waited)
