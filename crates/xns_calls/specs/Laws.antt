-- What the laws say: of what is heard, and of items that had not come.
use Rattle.std.specs.Prelude.{◌≡◌, ◌≢◌, ℕ, ◌+◌, ◌%◌, ◌≤◌, ◌<◌, ◌==◌, ◌⊎◌, Bool, List, Option, Result, Ok, Err, [], ◌∷◌, ◌++◌, ◌&&◌, ◌||◌, not, true, false, length, map, option_map, slice_get, IfOk, codes, None, Some}
use Rattle.std.specs.Ordering.{is_eq}
use Rattle.hex.specs.Hex.{decode_of}
use Rattle.hex.specs.declared.error.FromHexError.{FromHexError}
use Rattle.xns_idp.specs.Packet.{PacketModel}
use Rattle.xns_idp.specs.Reading.{packet_of}
use Rattle.xns_idp.specs.declared.fault.IdpFault.{IdpFault}
use Rattle.xns_spp.specs.Ends.{most_pending}
use Rattle.xns_spp.specs.Nearest.{field_round, half_round}
use Rattle.xns_spp.specs.Numbers.{most_items}
use Rattle.xns_spp.specs.declared.item.Item.{Item}
use Rattle.xns_spp.specs.declared.header.Header.{Header}
use Rattle.courier_messages.specs.Conversation.{conversation, ending, opening}
use Rattle.courier_messages.specs.declared.message.Message.{Message}
use Rattle.xns_dump.specs.Dump.Line.{digits_of, has_word}
use Rattle.xns_dump.specs.Flows.{flow_of, is_flow}
use Rattle.xns_dump.specs.Spelled.{SpellsPackets}
use Rattle.xns_dump.specs.declared.flows.flow.Flow.{Flow}
use Rattle.xns_lines.specs.Lines.{lines_of}
use Rattle.xns_calls.specs.Acknowledged.{ago, effective, kept_behind, most_waited, nearer}
use Rattle.xns_calls.specs.Calls.{calls_text, has_refusal, known_from, known_of}
use Rattle.xns_calls.specs.Capture.{Known, after_sequenced, flow_behind, place_of}
use Rattle.xns_calls.specs.Events.{AreWithinReach, Event, IsAmong, acknowledged_event, after_event, after_events, after_whole_event}
use Rattle.xns_calls.specs.Events.{after_whole_events, captured, captured_in, own_events, with_captured}
use Rattle.xns_calls.specs.Files.{calls_capture_text, has_file_refusal}
use Rattle.xns_calls.specs.Exchange.{Scene, after_packet, after_told, first_track, of_other, other_reached, seen_from_other}
use Rattle.xns_calls.specs.Exchange.{take_number, told_of}
use Rattle.xns_calls.specs.Input.{FlowName, TellsConversation, events_in, first_field}
use Rattle.xns_calls.specs.Keys.{IsFlow, connection_key, key_cmp}
use Rattle.xns_calls.specs.Listening.{AreFaultless, heard_at_lines, message_lines, messages_heard, said_items}
use Rattle.xns_calls.specs.Living.{IsNotAnswered, is_answered}
use Rattle.xns_calls.specs.Naming.{Programs}
use Rattle.xns_calls.specs.Numbers.{near}
use Rattle.xns_calls.specs.Reading.{Told}
use Rattle.xns_calls.specs.Repeats.{has_row, repeats_of, tells_next}
use Rattle.xns_calls.specs.Whole.{IsWhole, SaysConversation, flow_heard, flow_text, of_courier, with_end_read}
use Rattle.xns_calls.specs.declared.carried.Carried.{Carried}
use Rattle.xns_calls.specs.declared.connection.Connection.{Connection}
use Rattle.xns_calls.specs.declared.due.Due.{Due}
use Rattle.xns_calls.specs.declared.heading.Heading.{Heading}
use Rattle.xns_calls.specs.declared.origin.Origin.{Origin}
use Rattle.xns_calls.specs.declared.speech.Speech.{Speech}
use Rattle.xns_calls.specs.declared.speech.Speech.TheVariants.{Hearing}
use Rattle.xns_calls.specs.declared.times.Times.{Times}
use Rattle.xns_calls.specs.declared.times.Times.TheVariants.{Hidden}
use Rattle.xns_calls.specs.declared.track.Track.{Track}

-- what is heard of a flow from its version range on begins with the conversation of its items, and is all of it where that has no fault
pub record WhatIsHeardIsTheConversation : Type 0 where
  pub begins : (fed : List Item) → (rest : List Message) × (conversation fed ++ rest ≡ messages_heard (Hearing (opening [])) fed)
  pub whole : (fed : List Item) → IfOk (ending fed) (λ phase. conversation fed ≡ messages_heard (Hearing (opening [])) fed)

-- what is printed of items without a fault are the lines of the messages that are heard, in order, and nothing else
pub record HeardMessagesArePrinted : Type 0 where
  pub text : (items : List (Heading × Item)) (t : Told) → AreFaultless t.track.speech items
      → (said_items items t).text ≡ t.text ++ message_lines t.calls (heard_at_lines t.track.speech items)
  pub messages : (items : List (Heading × Item)) (speech : Speech)
      → map (λ x. x.1) (heard_at_lines speech items) ≡ messages_heard speech (map (λ x. x.1) items)

-- where no programs are given, the answer of `calls` is true exactly where its text has the word `refused`: of lines, and of a capture,
-- with times or without. A name of a program, or a string, could be that word
pub record TheAnswerSaysRefused : Type 0 where
  pub lines : (input : List ℕ) → has_word (codes "refused") (calls_text None input) ≡ has_refusal None input
  pub capture : (times : Times) (file : List ℕ)
      → has_word (codes "refused") (calls_capture_text None times file) ≡ has_file_refusal None times file

-- what a data packet does to its flow is the event of its item, with the number that its field stands for
abbrev pub AnItemIsAnEvent : Type 0
AnItemIsAnEvent = (h : Heading) (f : Header) (item : Carried) (s : Scene) (track : Track) (number : ℕ) → s.own.track ≡ Some track
    → near track.next f.sequence ≡ Some number
    → take_number h f item s ≡ after_told (after_event (captured h number item) (told_of track s)) s

-- what a packet does to a flow are its events: of the flow itself, and of the flow behind, of which nothing else changes the flow. Where
-- nothing takes effect of the flow behind, nothing is said of it
pub record PacketsAreEvents : Type 0 where
  pub own : (h : Heading) (due : Due) (packet : PacketModel) (f : Header) (content : List ℕ) (s : Scene) (track : Track) → s.own.track ≡ Some track
      → after_packet h due packet f content s
      ≡ after_told (after_events (own_events h due f content track (other_reached h due.other s)) (told_of track s))
      (other_reached h due.other s)
  pub behind : (h : Heading) (number : Option ℕ) (s : Scene) (track : Track) → s.other.track ≡ Some track
      → other_reached h number s
      ≡ seen_from_other (after_told (after_events (acknowledged_event (of_other h) number) (told_of track (seen_from_other s))) (seen_from_other s))
  pub only : (h : Heading) (due : Due) (packet : PacketModel) (f : Header) (content : List ℕ) (s : Scene)
      → (after_packet h due packet f content s).other.track ≡ (other_reached h due.other s).other.track
  pub quiet : (h : Heading) (s : Scene) → other_reached h None s ≡ s

-- what takes effect with a packet is what the packet of its connection 64 before it acknowledged ahead, and no more numbers are kept
pub record AcknowledgementsWait : Type 0 where
  pub effect : (packets : List (Option ℕ)) → effective (nearer (kept_behind packets [])) ≡ ago packets
  pub few : (packets : List (Option ℕ)) → length (kept_behind packets []) ≤ most_waited

-- the field of an item within half a round of the next one is read as the item's number
abbrev pub NumbersAreReadBack : Type 0
NumbersAreReadBack = (next number : ℕ) → next ≤ most_items → next ≤ number + half_round → number < next + half_round
    → near next (number % field_round) ≡ Some number

-- where each item of a flow is captured within 63 numbers of its place, and before what acknowledges it takes effect, none is missing:
-- what is said is what is said without the line of missing items
abbrev pub NothingIsMissing : Type 0
NothingIsMissing = (events : List Event) (t : Told) → t.track.early ≡ [] → AreWithinReach t.track.next [] events
    → after_events events t ≡ after_whole_events events t

-- an item that was captured before changes nothing and says nothing
abbrev pub RepeatsSayNothing : Type 0
RepeatsSayNothing = (events : List Event) (h : Heading) (number : ℕ) (item : Carried) (t : Told) → t.track.early ≡ []
    → (number < t.track.next) ⊎ IsAmong number (captured_in events [])
    → after_event (captured h number item) (after_events events t) ≡ after_events events t

-- of the items of a flow the line that tells of repeats is printed with the first one that ends 64 repeats in a row, and with no other
abbrev pub RepeatsAreToldOnce : Type 0
RepeatsAreToldOnce = (is_repeat : Bool) (before : List Bool)
    → (is_repeat && tells_next (repeats_of before)) ≡ (has_row (is_repeat ∷ before) && not (has_row before))

-- no item is passed over but before one that is captured: the next item is never more than one behind the last that is, and where no item
-- behind the next one is captured, an event says what it says without the line of missing items
pub record MissingItemsAreBeforeCapturedOnes : Type 0 where
  pub next : (events : List Event) (t : Told) (most : ℕ) → t.track.early ≡ [] → t.track.next ≤ most + 1
      → ((n : ℕ) → IsAmong n (captured_in events []) → n ≤ most)
      → (after_events events t).track.next ≤ most + 1
  pub none : (events : List Event) (e : Event) (t : Told) → t.track.early ≡ []
      → ((n : ℕ) → IsAmong n (with_captured e (captured_in events [])) → n ≤ (after_events events t).track.next)
      → after_event e (after_events events t) ≡ after_whole_event e (after_events events t)

-- of a flow that begins with item 0, of which each item is captured, in whatever order within 63 numbers and before what acknowledges it
-- takes effect, the lines of the messages of its conversation are printed, and nothing else up to the first fault: once what it keeps is
-- read at the end
abbrev pub WholeFlowsSayTheirConversation : Type 0
WholeFlowsSayTheirConversation = (items : List Item) (events : List Event) (field : ℕ) (t : Told) (h : Heading) → field < most_pending
    → t.track ≡ first_track field → IsWhole items events
    → SaysConversation (of_courier items) (flow_heard (with_end_read h events t) t) (flow_text (with_end_read h events t) t)

-- of an input with whatever lines and flows: where each item of a flow stands in it whole, its text tells of that flow that it begins, then
-- tells the flow's conversation, and up to the first fault nothing else but that repeats came in a row
abbrev pub InputsTellTheirConversations : Type 0
InputsTellTheirConversations = (programs : Programs) (input : List ℕ) (p : FlowName) (items : List Item) (field : ℕ)
    → first_field programs p (lines_of input) ≡ Some field → field < most_pending → IsWhole items (events_in programs p (lines_of input))
    → TellsConversation programs p items (lines_of input) (calls_text programs input)

-- a packet to a known identifier changes no connection but that of its flow
abbrev pub OtherConnectionsStay : Type 0
OtherConnectionsStay = (n : Origin) (packet : PacketModel) (f : Header) (content : List ℕ) (k : Known) (i : ℕ) → i < length k.connections
    → place_of (flow_of packet f) k.connections ≢ Some i
    → slice_get (after_sequenced n packet f content k).connections i ≡ slice_get k.connections i

-- among these connections, one of the same number and the same flow stands at the place of this one
abbrev pub WasThere : List Connection → ℕ → Connection → Type 0
WasThere old i c = (before : Connection) × (slice_get old i ≡ Some before) × (before.number ≡ c.number) × (before.flow ≡ c.flow)

-- behind whatever lines, the connections that are kept have numbers of their own, up to the number of those that have begun; a number that
-- was given is never given again: whatever lines come, a connection that has it then was there, at its place
pub record ConnectionsHaveNumbers : Type 0 where
  pub below : (programs : Programs) (lines : List (List ℕ)) (i : ℕ) (c : Connection)
      → slice_get (known_of programs lines).connections i ≡ Some c → c.number ≤ (known_of programs lines).count
  pub own : (programs : Programs) (lines : List (List ℕ)) (i j : ℕ) (c d : Connection)
      → slice_get (known_of programs lines).connections i ≡ Some c → slice_get (known_of programs lines).connections j ≡ Some d
      → c.number ≡ d.number → i ≡ j
  pub once : (programs : Programs) (lines more : List (List ℕ)) (i : ℕ) (c : Connection)
      → slice_get (known_of programs (lines ++ more)).connections i ≡ Some c → c.number ≤ (known_of programs lines).count
      → WasThere (known_of programs lines).connections i c

-- a connection of which no flow has an item of datastream 255, EndReply, keeps its place and its number, whatever comes: it begins never anew
abbrev pub LivingConnectionsAreKept : Type 0
LivingConnectionsAreKept = (programs : Programs) (i n : ℕ) (k : Known) (connection : Connection) (lines : List (List ℕ))
    → slice_get k.connections i ≡ Some connection
    → is_answered connection ≡ false → IsNotAnswered programs i n k lines
    → option_map (λ c. c.number) (slice_get (known_from programs n k lines).connections i) ≡ Some connection.number

-- two flows have one key exactly where one is the other, or the flow behind it
abbrev pub OneKeyServesBothDirections : Type 0
OneKeyServesBothDirections = (a b : Flow) → IsFlow a → IsFlow b
    → is_eq (key_cmp (connection_key a) (connection_key b)) ≡ (is_flow a b || is_flow a (flow_behind b))

-- a packet of another type than 5
abbrev pub is_of_other_type : Result (PacketModel × ℕ) IdpFault → Bool
is_of_other_type (Ok found) = not (found.0.kind == 5)
is_of_other_type (Err fault) = false

abbrev pub are_of_other_type : Result (List ℕ) FromHexError → Bool
are_of_other_type (Ok bytes) = is_of_other_type (packet_of bytes)
are_of_other_type (Err error) = false

-- the line spells such a packet, of which nothing is said
abbrev pub IsPassedOver : List ℕ → Type 0
IsPassedOver line = are_of_other_type (decode_of (digits_of line)) ≡ true

-- a capture says what lines say that spell its packets, among others that say nothing, where no times are wanted
pub record CapturesSayWhatLinesSay : Type 0 where
  pub text : (programs : Programs) (input file : List ℕ) → SpellsPackets IsPassedOver input file
      → calls_capture_text programs Hidden file ≡ calls_text programs input
  pub refused : (programs : Programs) (input file : List ℕ) → SpellsPackets IsPassedOver input file
      → has_file_refusal programs Hidden file ≡ has_refusal programs input
