-- When frames were captured.
use Rattle.std.specs.Prelude.{ℕ, zero, suc, ◌+◌, ◌-◌, ◌*◌, ◌/◌, ◌^◌, ◌==◌, ◌&&◌, min, nat_lt, if◌then◌else◌, List, length, drop, slice_index}
use Rattle.std.specs.Prelude.{Option, Some, None, option_and_then}
use Rattle.xns_captures.specs.Places.{word_in_order}
use Rattle.xns_captures.specs.declared.byte_order.ByteOrder.{ByteOrder}
use Rattle.xns_captures.specs.declared.frame_time.FrameTime.{FrameTime}

-- how many units of time a second has, by the code of their resolution in pcapng: a power of ten, or of two behind the highest bit; a
-- larger power is not read
unfoldable pub units_of_second : ℕ → Option ℕ
units_of_second resolution =
    if nat_lt resolution 20 then Some (10 ^ resolution)
    else if nat_lt resolution 128 then None
    else if nat_lt resolution 192 then Some (2 ^ (resolution - 128))
    else None

-- a number of 64 bits
abbrev pub in_64_bits : ℕ → Option ℕ
in_64_bits n = if nat_lt 18446744073709551615 n then None else Some n

-- the nanoseconds since 1970, rounded down, up to the year 2554
abbrev pub nanoseconds_of : FrameTime → Option ℕ
nanoseconds_of time = option_and_then (λ units. in_64_bits (time.count * 1000000000 / units)) (units_of_second time.resolution)

-- a resolution of 10^-n of a second gives n digits, nine at most, and one of a power of two nine
abbrev pub digits_of : FrameTime → ℕ
digits_of time = min time.resolution 9

-- ---- the resolution of an interface of pcapng: option 9, whose value has one byte; without it, microseconds

-- an option has a code, the length of its value, and the value, which is filled up to a multiple of four bytes; code 0 ends them
abbrev pub by_option : ByteOrder → List ℕ → (List ℕ → ℕ) → ℕ
by_option order options more =
    if word_in_order order options 0 == 0 then 6
    else if word_in_order order options 0 == 9 && word_in_order order options 2 == 1 then slice_index options 4
    else more (drop (4 + (word_in_order order options 2 + 3) / 4 * 4) options)

-- within so many options
abbrev pub resolution_within : ℕ → ByteOrder → List ℕ → ℕ
resolution_within zero order options = 6
resolution_within (suc more) order options =
    if nat_lt (length options) 4 then 6 else by_option order options (resolution_within more order)

-- the resolution that the options say, of which there are no more than bytes
abbrev pub resolution_of : ByteOrder → List ℕ → ℕ
resolution_of order options = resolution_within (length options) order options
