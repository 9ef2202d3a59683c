-- What a function returns that appends a text to a vector.
use Rattle.std.specs.Prelude.{◌≡◌, ℕ, ◌+◌, ◌<◌, ◌≤◌, List, ◌++◌, length, Result, Ok, Err, Vec, vec_len, vec_capacity}
use Rattle.std.specs.Global.{Global}

-- the text stands behind the old one, and no room was given up
pub record IsTextAppended (text : List ℕ) (old new : Vec ℕ Global) : Type 0 where
  pub items : new.items ≡ old.items ++ text
  pub count : vec_len new ≡ vec_len old + length text
  pub capacity : vec_capacity old ≤ vec_capacity new

-- the text was appended, or memory was refused, since there was no room for it
abbrev pub AppendsText : {A E : Type 0} → Result A E → List ℕ → Vec ℕ Global → Vec ℕ Global → Type 0
AppendsText (Ok _) text old new = IsTextAppended text old new
AppendsText (Err _) text old new = vec_capacity old < vec_len old + length text
