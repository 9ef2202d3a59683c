-- The numbers that the connections of a host have.
use Rattle.std.specs.Prelude.{◌≡◌, ◌≤◌, ◌<◌, ℕ, List, Option, Some, None, true, false, length, slice_get}
use Rattle.xns_host.specs.Hosting.{has_guest}
use Rattle.xns_host.specs.declared.guest.Guest.{Guest}

-- no connection has a number from the first one on that is below the second
abbrev pub HasNoneFrom : List (Option Guest) → (from to : ℕ) → Type 0
HasNoneFrom guests from to = (k : ℕ) → from ≤ k → k < to → has_guest (slice_get guests k) ≡ false

-- the first number from this one on that a connection has; where none has, there is none
abbrev pub IsNumberFrom : List (Option Guest) → ℕ → Option ℕ → Type 0
IsNumberFrom guests from None = HasNoneFrom guests from (length guests)
IsNumberFrom guests from (Some n) = (from ≤ n) × (has_guest (slice_get guests n) ≡ true) × HasNoneFrom guests from n
