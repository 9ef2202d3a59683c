-- Times of some of the connections, and which one is the earliest.
use Rattle.std.specs.Prelude.{◌≡◌, ◌≢◌, ℕ, ◌+◌, ◌-◌, ◌*◌, ◌<◌, ◌≤◌, nat_le, nat_lt, List, length, if◌then◌else◌, Option, Some, None}
use Rattle.std.specs.Prelude.{slice_get, slice_index_or}

-- a time is given, no later than this one
abbrev pub IsBy : Option ℕ → ℕ → Type 0
IsBy None t = ⊥
IsBy (Some s) t = s ≤ t

-- no number's time is earlier than `first`; where `first` is none, no number has a time
pub record HasEarliest (times : List (Option ℕ)) (first : Option ℕ) : Type 0 where
  pub least : (k t : ℕ) → slice_get times k ≡ Some (Some t) → IsBy first t

-- the number has this time, and no number's time is earlier
pub record IsEarliest (times : List (Option ℕ)) (number time : ℕ) : Type 0 where
  pub there : slice_get times number ≡ Some (Some time)
  pub least : HasEarliest times (Some time)

-- each number's time is after now
pub record HasNoneBy (times : List (Option ℕ)) (now : ℕ) : Type 0 where
  pub after : (k t : ℕ) → slice_get times k ≡ Some (Some t) → now < t

-- the number's time is at or before now, and no number's time is earlier
pub record IsFirstBy (times : List (Option ℕ)) (now number : ℕ) : Type 0 where
  pub time : ℕ
  pub first : IsEarliest times number time
  pub by : time ≤ now

-- a number's time may be kept beside the others' times: among these the number has none, and it is one of their numbers
-- where it has a time
pub record IsBeside (others : List (Option ℕ)) (number : ℕ) (time : Option ℕ) : Type 0 where
  pub none : slice_index_or others number None ≡ None
  pub within : (t : ℕ) → time ≡ Some t → number < length others

-- ---- the tree

abbrev pub sooner : Option ℕ → Option ℕ → Option ℕ
sooner None b = b
sooner (Some s) None = Some s
sooner (Some s) (Some t) = if nat_le s t then Some s else Some t

-- the nodes from the length of the tree on are the times
abbrev pub node : List (Option ℕ) → List (Option ℕ) → ℕ → Option ℕ
node tree times i = if nat_lt i (length tree) then slice_index_or tree i None else slice_index_or times (i - length tree) None

-- each node above the times has the sooner time of the two below it, but the one above a node that was changed
pub record IsTreeBut (tree times : List (Option ℕ)) (changed : ℕ) : Type 0 where
  pub same : length tree ≡ length times
  pub rule : (i : ℕ) → 1 ≤ i → i < length tree → changed ≢ 2 * i → changed ≢ 2 * i + 1
      → slice_index_or tree i None ≡ sooner (node tree times (2 * i)) (node tree times (2 * i + 1))

-- each node above the times has the sooner time of the two below it
pub record IsTree (tree times : List (Option ℕ)) : Type 0 where
  pub same : length tree ≡ length times
  pub rule : (i : ℕ) → 1 ≤ i → i < length tree → slice_index_or tree i None ≡ sooner (node tree times (2 * i)) (node tree times (2 * i + 1))
