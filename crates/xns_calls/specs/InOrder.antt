-- Which item that is kept may be read, said of two flows.
use Rattle.std.specs.Prelude.{◌≡◌, ℕ, ◌+◌, ◌≤◌, ◌<◌, ◌⊎◌, List, [], ◌∷◌, Option, Some, None, true, false}
use Rattle.xns_spp.specs.Ends.{most_pending}
use Rattle.xns_calls.specs.AtEnd.{both_ended}
use Rattle.xns_calls.specs.Exchange.{Scene}
use Rattle.xns_calls.specs.Read.{settled}
use Rattle.xns_calls.specs.Turns.{next_turn}
use Rattle.xns_calls.specs.declared.early.Early.{Early}
use Rattle.xns_calls.specs.declared.given.Given.{Given}
use Rattle.xns_calls.specs.declared.heading.Heading.{Heading}
use Rattle.xns_calls.specs.declared.track.Track.{Track}

-- what an item's packet acknowledges of the flow behind was read, or is waited for no longer; or the number lies more than 64 past the
-- next one, as none of a window of 64 does
abbrev pub WaitsForNone : Option Track → ℕ → Option ℕ → Type 0
WaitsForNone None given acknowledged = Unit {0}
WaitsForNone (Some behind) given None = Unit {0}
WaitsForNone (Some behind) given (Some number) = (number ≤ behind.next) ⊎ ((number ≤ given) ⊎ (behind.next + most_pending < number))

-- the item is the first that a flow keeps, it comes next, and it waits for nothing of the flow behind
pub record CanBeRead (track : Track) (behind : Option Track) (given : ℕ) (early : Early) : Type 0 where
  pub rest : List Early
  pub first : track.early ≡ early ∷ rest
  pub next : early.number ≤ track.next
  pub free : WaitsForNone behind given early.item.acknowledged

-- an item has its turn only where it can be read: of a flow, or of the one behind it; of two that can be, the one that was captured first has
-- it; what is still kept then can't be read, of neither flow; and at the end of the input nothing is still kept
pub record KeptItemsAreReadInTurn : Type 0 where
  pub can : (given : Given) (own other : Option Track) → next_turn given own other ≡ Some false
      → (track : Track) × (own ≡ Some track) × (early : Early) × CanBeRead track other given.other early
  pub can_behind : (given : Given) (own other : Option Track) → next_turn given own other ≡ Some true
      → (track : Track) × (other ≡ Some track) × (early : Early) × CanBeRead track own given.own early
  pub first : (given : Given) (own other : Track) (a b : Early) → CanBeRead own (Some other) given.other a → CanBeRead other (Some own) given.own b
      → (b.item.line < a.item.line → next_turn given (Some own) (Some other) ≡ Some true)
      × (a.item.line ≤ b.item.line → next_turn given (Some own) (Some other) ≡ Some false)
  pub left : (h : Heading) (given : Given) (s : Scene) (track : Track) (early : Early) → (settled h given s).own.track ≡ Some track
      → CanBeRead track (settled h given s).other.track given.other early → ⊥
  pub left_behind : (h : Heading) (given : Given) (s : Scene) (track : Track) (early : Early) → (settled h given s).other.track ≡ Some track
      → CanBeRead track (settled h given s).own.track given.own early → ⊥
  pub ended : (h : Heading) (s : Scene) (track : Track) → ((both_ended h s).own.track ≡ Some track) ⊎ ((both_ended h s).other.track ≡ Some track)
      → track.early ≡ []
