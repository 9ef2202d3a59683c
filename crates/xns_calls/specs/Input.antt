-- A flow of a whole input: what happens to it, line by line, and the parts that the text is made of.
use Rattle.std.specs.Prelude.{◌≡◌, ℕ, ◌+◌, ◌==◌, ◌≤◌, not, Bool, true, false, if◌then◌else◌, List, [], ◌∷◌, ◌++◌, length, slice_get}
use Rattle.std.specs.Prelude.{Option, Some, None, Result, Ok, Err}
use Rattle.std.specs.List.{flat_map}
use Rattle.hex.specs.Hex.{decode_of}
use Rattle.hex.specs.declared.error.FromHexError.{FromHexError}
use Rattle.courier_messages.specs.declared.fault.SessionFault.{SessionFault}
use Rattle.courier_messages.specs.declared.message.Message.{Message}
use Rattle.xns_idp.specs.Packet.{PacketModel}
use Rattle.xns_idp.specs.Reading.{packet_of}
use Rattle.xns_idp.specs.declared.fault.IdpFault.{IdpFault}
use Rattle.xns_spp.specs.Header.{header_of, is_system}
use Rattle.xns_spp.specs.declared.header.Header.{Header}
use Rattle.xns_spp.specs.declared.item.Item.{Item}
use Rattle.xns_spp.specs.declared.spp_fault.SppFault.{SppFault}
use Rattle.xns_dump.specs.Dump.Line.{digits_of, hex_refusal}
use Rattle.xns_dump.specs.Flows.{flow_of}
use Rattle.xns_dump.specs.Layers.Packets.{idp_refusal}
use Rattle.xns_dump.specs.Layers.Sequenced.{header_refusal}
use Rattle.xns_calls.specs.Calls.{line_taken, nothing_known}
use Rattle.xns_calls.specs.Acknowledged.{acknowledged_in, due_of}
use Rattle.xns_calls.specs.Anew.{begins_anew}
use Rattle.xns_calls.specs.Capture.{Known, heading_at, is_behind_in, place_of}
use Rattle.xns_calls.specs.Events.{Event, acknowledged_event, captured_event}
use Rattle.xns_calls.specs.Exchange.{behind_last, carried, first_track}
use Rattle.xns_calls.specs.Naming.{Programs}
use Rattle.xns_calls.specs.Numbers.{near}
use Rattle.xns_calls.specs.Origins.{line_origin}
use Rattle.xns_calls.specs.Over.{side_in}
use Rattle.xns_calls.specs.Telling.{message_line}
use Rattle.xns_calls.specs.Texts.{flow_line, missing_line, refused_line, repeats_line}
use Rattle.xns_calls.specs.TimeTexts.{time_text}
use Rattle.xns_calls.specs.Whole.{SaysConversation, ToldHeard, of_courier}
use Rattle.xns_calls.specs.declared.connection.Connection.{Connection}
use Rattle.xns_dump.specs.declared.flows.flow.Flow.{Flow}
use Rattle.xns_calls.specs.declared.heading.Heading.{Heading}
use Rattle.xns_calls.specs.declared.origin.Origin.{Origin}
use Rattle.xns_calls.specs.declared.track.Track.{Track}
use Rattle.xns_calls.specs.Unanswered.{UnansweredCalls}

-- ---- the packets of the lines

-- a sequenced packet to a known identifier: the packet, its header and its content
abbrev pub Arrival : Type 0
Arrival = PacketModel × Header × List ℕ

abbrev pub arrival_with_header : PacketModel → Result (Header × List ℕ) SppFault → Option Arrival
arrival_with_header packet (Ok found) = if found.0.target_id == 0 then None else Some (packet, found.0, found.1)
arrival_with_header packet (Err fault) = None

abbrev pub in_packet : Result (PacketModel × ℕ) IdpFault → Option Arrival
in_packet (Ok found) = if found.0.kind == 5 then arrival_with_header found.0 (header_of found.0.body) else None
in_packet (Err fault) = None

abbrev pub in_bytes : Result (List ℕ) FromHexError → Option Arrival
in_bytes (Ok bytes) = in_packet (packet_of bytes)
in_bytes (Err error) = None

-- the sequenced packet of a line, if the line has one
unfoldable pub arrival : List ℕ → Option Arrival
arrival line = in_bytes (decode_of (digits_of line))

-- ---- of which flow a packet is

-- a flow as the text names it: the number of its connection, and whether it is the one that begins behind the other
pub record FlowName : Type 0 where
  pub connection : ℕ
  pub is_behind : Bool

-- the flow that begins the next connection
abbrev pub next_name : Known → FlowName
next_name k = record { connection = k.count + 1; is_behind = false }

-- the flow's name in its connection
abbrev pub name_in : Flow → Connection → FlowName
name_in flow connection = record { connection = connection.number; is_behind = is_behind_in flow connection }

abbrev pub known_connection : Option ℕ → List Connection → Option Connection
known_connection None connections = None
known_connection (Some i) connections = slice_get connections i

-- the connection that there is of a packet's flow
abbrev pub connection_of : PacketModel → Header → List Connection → Option Connection
connection_of packet f connections = known_connection (place_of (flow_of packet f) connections) connections

abbrev pub is_same : Bool → Bool → Bool
is_same true b = b
is_same false b = not b

-- ---- what happens to a flow

abbrev pub next_in : ℕ → Option Track → ℕ
next_in field None = (first_track field).next
next_in field (Some track) = track.next

-- a data packet of the flow brings an item
abbrev pub item_events : Heading → Header → List ℕ → Option ℕ → Option Track → List Event
item_events h f content acknowledged track =
    if is_system f then [] else captured_event h (near (next_in f.sequence track) f.sequence) (carried h acknowledged f content)

-- what a packet of flow q, which acknowledges so much, is to flow p, of which this is kept: its item, and what takes effect with it
abbrev pub events_between : FlowName → FlowName → Heading → Header → List ℕ → Option ℕ → Option Track → Option ℕ → List Event
events_between p q h f content acknowledged track due =
    if p.connection == q.connection then (if is_same p.is_behind q.is_behind then item_events h f content acknowledged track else []) ++ acknowledged_event h due
    else []

-- where a connection begins anew, all that its flows keep is read: the items before the last one have to be captured by then, as if
-- all of them were acknowledged
abbrev pub ending_events : FlowName → Heading → Connection → List Event
ending_events p h connection =
    if p.connection == connection.number then acknowledged_event h (behind_last (side_in p.is_behind connection).track) else []

abbrev pub events_there : FlowName → Heading → Arrival → Option Connection → Known → List Event
events_there p h a None k = events_between p (next_name k) h a.1 a.2 None None None
events_there p h a (Some connection) k =
    if begins_anew a.1 connection then ending_events p h connection ++ events_between p (next_name k) h a.1 a.2 None None None
    else events_between p (name_in (flow_of a.0 a.1) connection) h a.1 a.2 (acknowledged_in (is_behind_in (flow_of a.0 a.1) connection) a.1 connection) (side_in p.is_behind connection).track (due_of p.is_behind connection)

abbrev pub events_at : FlowName → Origin → Option Arrival → Known → List Event
events_at p n None k = []
events_at p n (Some a) k = events_there p (heading_at n p.connection p.is_behind) a (connection_of a.0 a.1 k.connections) k

abbrev pub events_from : Programs → FlowName → ℕ → Known → List (List ℕ) → List Event
events_from programs p n k [] = []
events_from programs p n k (line ∷ lines) = events_at p (line_origin programs n) (arrival line) k ++ events_from programs p (n + 1) (line_taken programs n line k) lines

-- what happens in all lines
abbrev pub events_in : Programs → FlowName → List (List ℕ) → List Event
events_in programs p lines = events_from programs p 1 nothing_known lines

-- ---- the field of its first item

abbrev pub field_between : FlowName → FlowName → Header → Option ℕ
field_between p q f =
    if p.connection == q.connection then (if is_same p.is_behind q.is_behind then (if is_system f then None else Some f.sequence) else None)
    else None

abbrev pub field_there : FlowName → Arrival → Option Connection → Known → Option ℕ
field_there p a None k = field_between p (next_name k) a.1
field_there p a (Some connection) k =
    if begins_anew a.1 connection then field_between p (next_name k) a.1
    else field_between p (name_in (flow_of a.0 a.1) connection) a.1

abbrev pub field_at : FlowName → Option Arrival → Known → Option ℕ
field_at p None k = None
field_at p (Some a) k = field_there p a (connection_of a.0 a.1 k.connections) k

abbrev pub or_later : Option ℕ → Option ℕ → Option ℕ
or_later (Some field) later = Some field
or_later None later = later

abbrev pub first_field_from : Programs → FlowName → ℕ → Known → List (List ℕ) → Option ℕ
first_field_from programs p n k [] = None
first_field_from programs p n k (line ∷ lines) =
    or_later (field_at p (arrival line) k) (first_field_from programs p (n + 1) (line_taken programs n line k) lines)

abbrev pub first_field : Programs → FlowName → List (List ℕ) → Option ℕ
first_field programs p lines = first_field_from programs p 1 nothing_known lines

-- ---- the parts of the text

-- what one line of the output says of a flow: it begins, the items from a number up to that before another had not come, a message is
-- whole, or a fault
pub data FlowSaid : Type 0 where
  begins : PacketModel → Header → FlowSaid
  lacks : ℕ → ℕ → FlowSaid
  message : UnansweredCalls → Message → FlowSaid
  refuses : SessionFault → FlowSaid

abbrev pub flow_said_text : Heading → FlowSaid → List ℕ
flow_said_text h (begins packet f) = flow_line h packet f
flow_said_text h (lacks first behind) = missing_line h first behind
flow_said_text h (message calls m) = message_line h calls m
flow_said_text h (refuses fault) = refused_line h fault

abbrev pub said_texts : Heading → List FlowSaid → List ℕ
said_texts h said = flat_map (flow_said_text h) said

-- what is said of a flow at a line of the input, that 64 repeats of it came in a row, or why that line or its packet was refused
pub data Part : Type 0 where
  told : Origin → FlowName → List FlowSaid → Part
  repeated : Origin → FlowName → Part
  bad_hex : ℕ → FromHexError → Part
  bad_packet : Origin → IdpFault → Part
  bad_header : Origin → SppFault → Part

abbrev pub part_text : Part → List ℕ
part_text (told n q said) = said_texts (heading_at n q.connection q.is_behind) said
part_text (repeated n q) = repeats_line (heading_at n q.connection q.is_behind)
part_text (bad_hex n error) = hex_refusal n error
part_text (bad_packet n fault) = time_text n.time ++ idp_refusal n.number fault
part_text (bad_header n fault) = time_text n.time ++ header_refusal n.number fault

abbrev pub parts_text : List Part → List ℕ
parts_text parts = flat_map part_text parts

-- what a part says of a flow, but for its repeats
abbrev pub text_in : FlowName → Part → List ℕ
text_in p (told n q said) =
    if p.connection == q.connection then (if is_same p.is_behind q.is_behind then said_texts (heading_at n q.connection q.is_behind) said else []) else []
text_in p (repeated n q) = []
text_in p (bad_hex n error) = []
text_in p (bad_packet n fault) = []
text_in p (bad_header n fault) = []

abbrev pub texts_in : FlowName → List Part → List ℕ
texts_in p parts = flat_map (text_in p) parts

-- each of what is heard is heard at a line of the input, up to the last one, in the order of the lines
abbrev pub AreAtLines : Programs → FlowName → ℕ → ℕ → List ToldHeard → Type 0
AreAtLines programs p first last [] = Unit {0}
AreAtLines programs p first last (x ∷ more) =
    (n : ℕ) × (first ≤ n) × (n ≤ last) × (x.0 ≡ heading_at (line_origin programs n) p.connection p.is_behind) × AreAtLines programs p n last more

-- the text is made of parts, of which those of the flow say that it begins, and then the conversation of its items, each message at a line of
-- the input, under the flow's name
pub record TellsConversation (programs : Programs) (p : FlowName) (items : List Item) (lines : List (List ℕ)) (text : List ℕ) : Type 0 where
  pub parts : List Part
  pub all : text ≡ parts_text parts
  pub heading : Heading
  pub packet : PacketModel
  pub header : Header
  pub said : List ℕ
  pub own : texts_in p parts ≡ flow_line heading packet header ++ said
  pub told : List ToldHeard
  pub at : AreAtLines programs p 1 (length lines) told
  pub conversation : SaysConversation (of_courier items) told said
