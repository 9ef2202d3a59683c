-- Which item that is kept is read next.
use Rattle.std.specs.Prelude.{ℕ, ◌-◌, ◌||◌, ◌&&◌, nat_lt, max, not, Bool, true, false, if◌then◌else◌, List, [], ◌∷◌, Option, Some, None}
use Rattle.xns_spp.specs.Ends.{most_pending}
use Rattle.xns_calls.specs.declared.early.Early.{Early}
use Rattle.xns_calls.specs.declared.first_kept.FirstKept.{FirstKept}
use Rattle.xns_calls.specs.declared.given.Given.{Given}
use Rattle.xns_calls.specs.declared.track.Track.{Track}

-- the first item that is kept, as far as it decides when it is read
abbrev pub first_kept : List Early → Option FirstKept
first_kept [] = None
first_kept (early ∷ rest) = Some (record { number = early.number; acknowledged = early.item.acknowledged; line = early.item.line })

-- the items of the flow behind that an item's packet acknowledges were read, or are waited for no longer; or the number lies more than 64
-- past the next one, as none of a window of 64 does
abbrev pub is_behind : ℕ → ℕ → ℕ → Bool
is_behind next given number = not (nat_lt (max next given) number) || nat_lt most_pending (number - next)

-- an item waits for nothing of the flow behind: that flow has not begun, or its packet acknowledges no number, or such items
abbrev pub waits_for_none : Option Track → ℕ → Option ℕ → Bool
waits_for_none None given acknowledged = true
waits_for_none (Some behind) given None = true
waits_for_none (Some behind) given (Some number) = is_behind behind.next given number

-- the line of the first item, where it comes next and waits for nothing
abbrev pub readable_first : ℕ → Option Track → ℕ → Option FirstKept → Option ℕ
readable_first next behind given None = None
readable_first next behind given (Some first) =
    if not (nat_lt next first.number) && waits_for_none behind given first.acknowledged then Some first.line else None

-- the line of the item of a flow that can be read
abbrev pub readable : Option Track → Option Track → ℕ → Option ℕ
readable None behind given = None
readable (Some track) behind given = readable_first track.next behind given (first_kept track.early)

-- of two flows that have such an item, the one whose item was captured first: a flow, or the one behind it (true)
abbrev pub first_line : Option ℕ → Option ℕ → Option Bool
first_line None None = None
first_line (Some own) None = Some false
first_line None (Some other) = Some true
first_line (Some own) (Some other) = Some (nat_lt other own)

-- the flow of which an item is read next, if there is one
abbrev pub next_turn : Given → Option Track → Option Track → Option Bool
next_turn given own other = first_line (readable own other given.other) (readable other own given.own)
