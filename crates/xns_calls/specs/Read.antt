-- How the items that are kept are read, as soon as they may be.
use Rattle.std.specs.Prelude.{ℕ, zero, suc, ◌+◌, ◌==◌, ◌&&◌, not, Bool, true, false, if◌then◌else◌, List, length, Option, Some, None}
use Rattle.std.specs.Option.{is_some}
use Rattle.xns_idp.specs.Packet.{PacketModel}
use Rattle.xns_spp.specs.Header.{is_system}
use Rattle.xns_spp.specs.Item.{item_with}
use Rattle.xns_spp.specs.declared.header.Header.{Header}
use Rattle.xns_calls.specs.Exchange.{Scene, after_packet, in_flow, next_read, of_other, seen_from_other}
use Rattle.xns_calls.specs.Numbers.{near}
use Rattle.xns_calls.specs.Reading.{first_read}
use Rattle.xns_calls.specs.Turns.{waits_for_none, next_turn}
use Rattle.xns_calls.specs.declared.due.Due.{Due}
use Rattle.xns_calls.specs.declared.given.Given.{Given}
use Rattle.xns_calls.specs.declared.heading.Heading.{Heading}
use Rattle.xns_calls.specs.declared.track.Track.{Track}

-- the first item that a flow keeps is read, if it comes next
abbrev pub own_read : Heading → Scene → Scene
own_read heading = in_flow (first_read heading)

-- the flow whose turn it is does something: the scene's own, or the one behind it (true)
abbrev pub in_turn : (Heading → Scene → Scene) → Heading → Option Bool → Scene → Scene
in_turn does heading None s = s
in_turn does heading (Some false) s = does heading s
in_turn does heading (Some true) s = seen_from_other (does (of_other heading) (seen_from_other s))

abbrev pub times : ℕ → (Scene → Scene) → Scene → Scene
times zero does s = s
times (suc n) does s = times n does (does s)

-- the first item is read of the flow whose turn it is, if it comes next
abbrev pub read_of : Heading → Option Bool → Scene → Scene
read_of = in_turn own_read

-- an item is read, if one of the two flows has one that can be
abbrev pub one_read : Heading → Given → Scene → Scene
one_read heading given s = read_of heading (next_turn given s.own.track s.other.track) s

abbrev pub read_times : ℕ → Heading → Given → Scene → Scene
read_times n heading given = times n (one_read heading given)

abbrev pub kept_item_count : Option Track → ℕ
kept_item_count None = 0
kept_item_count (Some track) = length track.early

-- items are read until neither flow has one that can be: no more are read than are kept
unfoldable pub settled : Heading → Given → Scene → Scene
settled heading given s = read_times (kept_item_count s.own.track + kept_item_count s.other.track) heading given s

-- what a packet does, and what is read then
abbrev pub handled : Heading → Due → PacketModel → Header → List ℕ → Scene → Scene
handled heading due packet f content s = settled heading due.given (after_packet heading due packet f content s)

-- ---- an item that is read where it lies

-- nothing is kept of a flow
abbrev pub keeps_none : Option Track → Bool
keeps_none None = true
keeps_none (Some track) = length track.early == 0

-- a packet's item comes next and waits for nothing, neither flow keeps one, and nothing takes effect of its own
abbrev pub is_alone : Due → Header → ℕ → Track → Option Track → Bool
is_alone due f number own other =
    ((not (is_system f) && not (is_some due.own)) && (number == own.next && length own.early == 0))
    && (keeps_none other && waits_for_none other due.given.other due.acknowledged)

abbrev pub alone_number : Due → Header → Option ℕ → Track → Option Track → Option ℕ
alone_number due f None own other = None
alone_number due f (Some number) own other = if is_alone due f number own other then Some number else None

-- the number of an item that comes next and finds nothing kept
abbrev pub comes_next : Due → Header → Option Track → Option Track → Option ℕ
comes_next due f None other = None
comes_next due f (Some own) other = alone_number due f (near own.next f.sequence) own other

-- a data packet begins its flow, and the flow behind keeps nothing
abbrev pub begins_first : Header → Option Track → Option Track → Bool
begins_first f own other = (not (is_system f) && not (is_some own)) && keeps_none other

-- an item that comes next and finds nothing kept is read
abbrev pub read_once : Heading → ℕ → Header → List ℕ → Scene → Scene
read_once heading number f content = next_read heading (number + 1) (item_with f content)
