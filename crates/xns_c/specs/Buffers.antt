-- What a function returns that writes bytes or words to the front of a caller's buffer.
use Rattle.std.specs.Prelude.{◌≡◌, ◌≢◌, ◌<◌, ◌≤◌, ℕ, List, length}
use Rattle.xns_c.specs.Given.{IsPut}
use Rattle.xns_c.specs.Results.{ok, nothing, no_memory, short_buffer, too_long}

-- the buffer stays as it was, and the caller is told no number
abbrev pub IsUnwritten : {A : Type 0} → (old new : List A) → (had told : ℕ) → Type 0
IsUnwritten old new had told = (new ≡ old) × (told ≡ had)

-- items of this number are written, and their number is told. A buffer without room for all of the items has none written, and their number
-- is told. Memory is refused only where it is wanted, and then nothing is written
pub record Writes {A : Type 0} (IsWanted : Type 0) (items : List A) (size : ℕ) (old new : List A) (had told result : ℕ) : Type 0 where
  pub put : size ≤ length old → result ≢ no_memory → (result ≡ ok) × IsPut items old new told
  pub short : length old < size → result ≢ no_memory → (result ≡ short_buffer) × (told ≡ size) × (new ≡ old)
  pub wanted : result ≡ no_memory → IsWanted
  pub memory : result ≡ no_memory → IsUnwritten old new had told

-- items of this number are written; memory is wanted only where the buffer has room for all of them
abbrev pub WritesWhereRoom : {A : Type 0} → (items : List A) → (size : ℕ) → (old new : List A) → (had told result : ℕ) → Type 0
WritesWhereRoom items size old new had told result = Writes (size ≤ length old) items size old new had told result

-- bytes up to the most that may be carried are written; where there are more nothing is written
pub record WritesUpTo (most : ℕ) (carried items : List ℕ) (size : ℕ) (old new : List ℕ) (had told result : ℕ) : Type 0 where
  pub long : most < length carried → (result ≡ too_long) × IsUnwritten old new had told
  pub written : length carried ≤ most → WritesWhereRoom items size old new had told result

-- items are written where a condition holds, which says what they are; where the condition does not hold nothing is written
pub record WritesIf (IsSo : Type 0) (items : IsSo → List ℕ) (old new : List ℕ) (had told result : ℕ) : Type 0 where
  pub written : (so : IsSo) → Writes IsSo (items so) (length (items so)) old new had told result
  pub only : result ≢ nothing → IsSo
  pub nothing : result ≡ nothing → IsUnwritten old new had told
