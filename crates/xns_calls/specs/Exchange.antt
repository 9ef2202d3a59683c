-- What a packet does to the two flows of its connection.
use Rattle.std.specs.Prelude.{◌≡◌, ℕ, ◌+◌, min, ◌==◌, ◌||◌, nat_lt, not, Bool, if◌then◌else◌, List, [], ◌++◌, Option, Some, None, option_map}
use Rattle.std.specs.Prelude.{◌&&◌, true, false}
use Rattle.std.specs.List.{list_any}
use Rattle.std.specs.Option.{is_some}
use Rattle.xns_idp.specs.Packet.{PacketModel}
use Rattle.xns_spp.specs.declared.header.Header.{Header}
use Rattle.xns_spp.specs.Ends.{most_pending}
use Rattle.xns_spp.specs.Header.{is_system}
use Rattle.xns_spp.specs.Item.{item_with}
use Rattle.xns_spp.specs.declared.item.Item.{Item}
use Rattle.courier_messages.specs.Conversation.{opening}
use Rattle.xns_lines.specs.declared.page.Page.{Page}
use Rattle.xns_calls.specs.declared.both_flows.BothFlows.{BothFlows}
use Rattle.xns_calls.specs.declared.carried.Carried.{Carried}
use Rattle.xns_calls.specs.declared.due.Due.{Due}
use Rattle.xns_calls.specs.declared.early.Early.{Early}
use Rattle.xns_calls.specs.declared.heading.Heading.{Heading}
use Rattle.xns_calls.specs.declared.side.Side.{Side}
use Rattle.xns_calls.specs.declared.speech.Speech.TheVariants.{Hearing, Waiting}
use Rattle.xns_calls.specs.declared.track.Track.{Track}
use Rattle.xns_calls.specs.Numbers.{near}
use Rattle.xns_calls.specs.Queue.{last_kept_number}
use Rattle.xns_calls.specs.Reading.{Told, brought, item_taken, read_next}
use Rattle.xns_calls.specs.Texts.{flow_line}
use Rattle.xns_calls.specs.Turns.{next_turn}

-- a flow that has not begun
abbrev pub no_side : Side
no_side = record { track = None; call = None }

-- the items that a flow keeps
abbrev pub items_of : Option Track → List Early
items_of None = []
items_of (Some track) = track.early

-- the number of a flow's next item
abbrev pub next_of : Option Track → ℕ
next_of None = 0
next_of (Some track) = track.next

abbrev pub keeping : List Early → Option Track → Option Track
keeping items None = None
keeping items (Some track) = Some (record track { early = items })

-- the flow, if it has begun, with these items kept
abbrev pub with_items : List Early → Side → Side
with_items items side = record side { track = keeping items side.track }

-- a flow and the one behind it, the text of the input's line, and whether something was refused
pub record Scene : Type 0 where
  pub own : Side
  pub other : Side
  pub text : List ℕ
  pub is_refused : Bool

abbrev pub scene : Side → Side → Page → Scene
scene own other page = record { own = own; other = other; text = page.text.line; is_refused = page.is_refused }

-- the two flows of a connection and the page, seen from the flow that begins behind, or else from the first
abbrev pub scene_seen : Bool → Side → Side → Page → Scene
scene_seen true first second page = scene second first page
scene_seen false first second page = scene first second page

-- both flows, with the page on which their lines are printed
abbrev pub scene_of : BothFlows → Scene
scene_of flows = scene flows.own.now flows.other.now flows.page.now

-- two records have the same flows, seen from the same one, and what stands before the line on the page is as it was
abbrev pub Continues : BothFlows → BothFlows → Type 0
Continues old new = (new.heading ≡ old.heading) × (new.page.now.text.front ≡ old.page.now.text.front)
    × (new.scratch.ghost_name ≡ old.scratch.ghost_name) × (new.page.ghost_name ≡ old.page.ghost_name)
    × (new.own.ghost_name ≡ old.own.ghost_name) × (new.other.ghost_name ≡ old.other.ghost_name)

-- a scene, seen from the flow behind
abbrev pub seen_from_other : Scene → Scene
seen_from_other s = record s { own = s.other; other = s.own }

abbrev pub told_of : Track → Scene → Told
told_of track s = record {
  track = track;
  calls = record { own = s.own.call; asked = s.other.call };
  text = s.text;
  is_refused = s.is_refused;
}

abbrev pub after_told : Told → Scene → Scene
after_told t s = record {
  own = record { track = Some t.track; call = t.calls.own };
  other = record s.other { call = t.calls.asked };
  text = t.text;
  is_refused = t.is_refused;
}

abbrev pub in_track : (Told → Told) → Option Track → Scene → Scene
in_track reads None s = s
in_track reads (Some track) s = after_told (reads (told_of track s)) s

-- what reads one flow is done to the scene's own, if it has begun
unfoldable pub in_flow : (Told → Told) → Scene → Scene
in_flow reads s = in_track reads s.own.track s

-- the flow is brought to the number, if it has begun
abbrev pub advanced : Heading → ℕ → Scene → Scene
advanced heading number = in_flow (brought heading number)

-- an item is read, if the flow has begun, and the next one has this number then
unfoldable pub next_read : Heading → ℕ → Item → Scene → Scene
next_read heading next item = in_flow (read_next heading next item)

-- the lesser of what is acknowledged and the number behind the last item that is kept; none where one of them isn't there
abbrev pub up_to : Option ℕ → Option ℕ → Option ℕ
up_to (Some last) (Some number) = Some (min number (last + 1))
up_to None number = None
up_to (Some last) None = None

-- the number to which a flow is brought where this one takes effect: what lies behind the last item that is kept may still come
abbrev pub reached : Option Track → Option ℕ → Option ℕ
reached None number = None
reached (Some track) number = up_to (last_kept_number track.early) number

abbrev pub advance_own : Heading → Option ℕ → Scene → Scene
advance_own heading None s = s
advance_own heading (Some number) s = advanced heading number s

-- the flow is brought to what takes effect of it
unfoldable pub own_reached : Heading → Option ℕ → Scene → Scene
own_reached heading number s = advance_own heading (reached s.own.track number) s

-- a heading for the other flow of the connection
abbrev pub of_other : Heading → Heading
of_other heading = record heading { is_behind = not heading.is_behind }

-- both flows, seen from the other one
abbrev pub turned : BothFlows → BothFlows
turned flows = record flows { heading = of_other flows.heading; own = flows.other; other = flows.own }

abbrev pub advance_other : Heading → Option ℕ → Scene → Scene
advance_other heading None s = s
advance_other heading (Some number) s = seen_from_other (advanced (of_other heading) number (seen_from_other s))

-- the flow behind is brought to what takes effect of it
unfoldable pub other_reached : Heading → Option ℕ → Scene → Scene
other_reached heading number s = advance_other heading (reached s.other.track number) s

-- a flow whose first field a window that begins with number 0 can hold begins with that number and its version range, and another one in
-- the middle
abbrev pub first_track : ℕ → Track
first_track field =
    if nat_lt field most_pending then record { next = 0; early = []; speech = Hearing (opening []) }
    else record { next = field; early = []; speech = Waiting }

abbrev pub begin_track : Heading → PacketModel → Header → Option Track → Scene → Scene
begin_track heading packet f (Some track) s = s
begin_track heading packet f None s = record s {
  own = record s.own { track = Some (first_track f.sequence) };
  text = s.text
      ++ flow_line heading packet f;
}

-- the flow begins, if it has not begun
unfoldable pub begun : Heading → PacketModel → Header → Scene → Scene
begun heading packet f s = begin_track heading packet f s.own.track s

-- an item of that number was read or passed over, or it is kept
abbrev pub is_repeat : ℕ → Track → Bool
is_repeat number track = nat_lt number track.next || list_any (λ early. early.number == number) track.early

abbrev pub unless_repeat : Track → Option ℕ → Option ℕ
unless_repeat track None = None
unless_repeat track (Some number) = if is_repeat number track then None else Some number

-- the number of an item, where it is no repeat
abbrev pub new_number : Option Track → ℕ → Option ℕ
new_number None field = None
new_number (Some track) field = unless_repeat track (near track.next field)

-- a new item is taken, if the flow has begun
unfoldable pub after_new : Heading → ℕ → Carried → Scene → Scene
after_new heading number item = in_flow (item_taken heading number item)

abbrev pub after_number : Heading → Option ℕ → Carried → Scene → Scene
after_number heading None item s = s
after_number heading (Some number) item s = after_new heading number item s

abbrev pub take_number : Heading → Header → Carried → Scene → Scene
take_number heading f item s = after_number heading (new_number s.own.track f.sequence) item s

-- the item of a packet, with what the packet acknowledges of the flow behind and the line or frame that brought it
abbrev pub carried : Heading → Option ℕ → Header → List ℕ → Carried
carried heading acknowledged f content = record { item = item_with f content; acknowledged = acknowledged; line = heading.origin.number }

-- what the item of a data packet does
unfoldable pub after_data : Heading → Option ℕ → PacketModel → Header → List ℕ → Scene → Scene
after_data heading acknowledged packet f content s = take_number heading f (carried heading acknowledged f content) (begun heading packet f s)

-- a system packet brings no item
unfoldable pub after_content : Heading → Option ℕ → PacketModel → Header → List ℕ → Scene → Scene
after_content heading acknowledged packet f content s = if is_system f then s else after_data heading acknowledged packet f content s

-- what a packet does: first what takes effect of the flow behind, then its item, if it brings one, and then what takes effect of its own
-- flow
unfoldable pub after_packet : Heading → Due → PacketModel → Header → List ℕ → Scene → Scene
after_packet heading due packet f content s =
    own_reached heading due.own (after_content heading due.acknowledged packet f content (other_reached heading due.other s))

-- a data packet begins its flow, or its item is no repeat
abbrev pub brings_new : Option Track → ℕ → Bool
brings_new None field = true
brings_new (Some track) field = is_some (new_number (Some track) field)

-- what takes effect brings a flow to a number
abbrev pub brings_on : Due → Scene → Bool
brings_on due s = is_some (reached s.other.track due.other) || is_some (reached s.own.track due.own)

-- a data packet brings something new
abbrev pub brings_data : Header → Option Track → Bool
brings_data f track = not (is_system f) && brings_new track f.sequence

-- to take a packet wants memory only where what takes effect brings a flow to a number, or where its data bring something new
abbrev pub wants_to_take : Due → Header → Scene → Bool
wants_to_take due f s = brings_on due s || brings_data f s.own.track

-- memory is wanted only to take the packet, or where one of the flows has an item that can be read
abbrev pub wants_memory : Due → Header → Scene → Bool
wants_memory due f s = wants_to_take due f s || is_some (next_turn due.given s.own.track s.other.track)

-- the number behind the last item that a flow keeps
abbrev pub behind_last : Option Track → Option ℕ
behind_last None = None
behind_last (Some track) = option_map (λ number. number + 1) (last_kept_number track.early)
