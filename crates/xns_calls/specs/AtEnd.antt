-- How what a connection keeps is read at the end of the input.
use Rattle.std.specs.Prelude.{ℕ, ◌+◌, nat_lt, Bool, if◌then◌else◌, List, [], ◌∷◌, Option, Some, None, option_map}
use Rattle.xns_calls.specs.Exchange.{Scene, advanced, other_reached}
use Rattle.xns_calls.specs.Read.{in_turn, kept_item_count, times}
use Rattle.xns_calls.specs.Turns.{first_kept, first_line}
use Rattle.xns_calls.specs.declared.early.Early.{Early}
use Rattle.xns_calls.specs.declared.first_kept.FirstKept.{FirstKept}
use Rattle.xns_calls.specs.declared.heading.Heading.{Heading}
use Rattle.xns_calls.specs.declared.track.Track.{Track}

-- the first item, with what is acknowledged by the packet that brought the earlier one of two, and the line of that packet
abbrev pub earlier : FirstKept → Early → FirstKept
earlier first early =
    if nat_lt early.item.line first.line then record first { acknowledged = early.item.acknowledged; line = early.item.line } else first

abbrev pub earliest : FirstKept → List Early → FirstKept
earliest first [] = first
earliest first (early ∷ rest) = earliest (earlier first early) rest

-- the first item that is kept, which is read in the turn of the one that was captured first
abbrev pub first_at_end : List Early → Option FirstKept
first_at_end items = option_map (λ first. earliest first items) (first_kept items)

abbrev pub first_in : Option Track → Option FirstKept
first_in None = None
first_in (Some track) = first_at_end track.early

-- the line that brought the item captured first of those that a flow keeps
abbrev pub end_line : Option Track → Option ℕ
end_line track = option_map (λ first. first.line) (first_in track)

-- of two flows, the one that keeps the item captured first: a flow, or the one behind it (true)
abbrev pub end_turn : Option Track → Option Track → Option Bool
end_turn own other = first_line (end_line own) (end_line other)

abbrev pub read_behind : Heading → Option FirstKept → Scene → Scene
read_behind heading None s = s
read_behind heading (Some first) s = advanced heading (first.number + 1) (other_reached heading first.acknowledged s)

-- a flow reads its first item, and passes over what is missing before it; the flow behind is first brought to what the packet
-- acknowledges that brought the item captured first, as far as it keeps items
unfoldable pub own_ended : Heading → Scene → Scene
own_ended heading s = read_behind heading (first_in s.own.track) s

-- the flow whose turn it is reads its first item, as at the end
abbrev pub ended_of : Heading → Option Bool → Scene → Scene
ended_of = in_turn own_ended

abbrev pub one_ended : Heading → Scene → Scene
one_ended heading s = ended_of heading (end_turn s.own.track s.other.track) s

abbrev pub ended_times : ℕ → Heading → Scene → Scene
ended_times n heading = times n (one_ended heading)

-- all that two flows keep is read, in the order in which it was captured, each item behind those before it and those that its packet
-- acknowledges
unfoldable pub both_ended : Heading → Scene → Scene
both_ended heading s = ended_times (kept_item_count s.own.track + kept_item_count s.other.track) heading s
