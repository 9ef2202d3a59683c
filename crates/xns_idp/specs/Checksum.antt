-- The checksum of a packet (XSIS 028112, Internet Datagram Protocol, Checksum).
use Rattle.std.specs.Prelude.{◌≡◌, ℕ, ◌+◌, ◌-◌, ◌*◌, ◌/◌, ◌%◌, ◌^◌, ◌==◌, nat_lt, if◌then◌else◌, List, [], ◌∷◌, length, ◌⊎◌}

-- the 16-bit words of bytes: the first byte of a pair is the high one, and a byte that is left over has a 0 after it
abbrev pub words : List ℕ → List ℕ
words [] = []
words (high ∷ []) = 256 * high ∷ []
words (high ∷ low ∷ bytes) = (256 * high + low) ∷ words bytes

-- w1 * 2 ^ n + .. + wn * 2: each word is doubled once for itself and once for each word after it
abbrev pub weighted_sum : List ℕ → ℕ
weighted_sum [] = 0
weighted_sum (w ∷ ws) = w * 2 ^ length (w ∷ ws) + weighted_sum ws

-- the cycle checksum of words: (w1 * 2 ^ n + .. + wn * 2) modulo 65535
unfoldable pub cycle_checksum : List ℕ → ℕ
cycle_checksum ws = weighted_sum ws % 65535

-- ---- the checksum as the standard describes it; a law of this crate shows that it is the one above

-- the sum of 16 bits whose carry out of the top is added at the bottom
abbrev pub add_with_end_around_carry : ℕ → ℕ → ℕ
add_with_end_around_carry a b = if nat_lt 65535 (a + b) then a + b - 65535 else a + b

-- 16 bits moved left by one, the top bit coming in at the bottom
abbrev pub rotated_left : ℕ → ℕ
rotated_left n = 2 * n % 65536 + n / 32768

-- each word is added to the sum, which is then rotated
abbrev pub added_and_rotated : ℕ → List ℕ → ℕ
added_and_rotated sum [] = sum
added_and_rotated sum (w ∷ ws) = added_and_rotated (rotated_left (add_with_end_around_carry sum w)) ws

-- a final 65535 becomes 0, since a field of 65535 means that there is no checksum
abbrev pub zero_for_all_ones : ℕ → ℕ
zero_for_all_ones n = if n == 65535 then 0 else n

-- ---- words that no sum tells apart, and a sum that is made piece by piece

-- two words are the same, or one is 0 and the other 65535
abbrev pub AreAlike : ℕ → ℕ → Type 0
AreAlike v w = (v ≡ w) ⊎ ((v ≡ 0) × (w ≡ 65535)) ⊎ ((v ≡ 65535) × (w ≡ 0))

-- the weighted sum of words after others whose sum is start
unfoldable pub sum_from : ℕ → List ℕ → ℕ
sum_from start ws = start * 2 ^ length ws + weighted_sum ws
