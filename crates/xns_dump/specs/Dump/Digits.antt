-- The values of hex digits.
use Rattle.std.specs.Prelude.{◌≡◌, ◌<◌, ◌≤◌, ◌/◌, ℕ, List, length, slice_index, Some}
use Rattle.hex.specs.Hex.{hex_digit_value}
use Rattle.xns_lines.specs.Lines.{most_line_bytes}

-- each is a digit, and its value stands in its place
abbrev pub HasValues : List ℕ → List ℕ → Type 0
HasValues digits values =
    (i : ℕ) → i < length digits → (hex_digit_value (slice_index digits i) ≡ Some (slice_index values i)) × (slice_index values i < 16)

-- the two rooms hold the values and the bytes of the longest line, and `used` bytes are within the second
pub record HasDigitRoom (value_room byte_room : List ℕ) (used : ℕ) : Type 0 where
  pub values : most_line_bytes ≤ length value_room
  pub bytes : most_line_bytes / 2 ≤ length byte_room
  pub count : used ≤ length byte_room
