-- What a function returns that appends a text to a vector. The limit is this project's rule.
use Rattle.std.specs.Prelude.{◌≡◌, ℕ, ◌+◌, ◌<◌, ◌≤◌, List, ◌++◌, length, Result, Ok, Err, Vec, vec_len, vec_capacity}
use Rattle.std.specs.Global.{Global}
use Rattle.courier_texts.specs.declared.appending.TheConstants.{MOST_TEXT}
use Rattle.courier_texts.specs.declared.text_refusal.TextRefusal.{TextRefusal}
use Rattle.courier_texts.specs.declared.text_refusal.TextRefusal.TheVariants.{LongText, NoMemory}

abbrev pub most_text : ℕ
most_text = MOST_TEXT

-- the text stands behind the old one, within the limit, and no room was given up
pub record IsAppended (text : List ℕ) (old new : Vec ℕ Global) : Type 0 where
  pub items : new.items ≡ old.items ++ text
  pub count : vec_len new ≡ vec_len old + length text
  pub within : vec_len new ≤ most_text
  pub capacity : vec_capacity old ≤ vec_capacity new

-- why the text is not appended: it would pass the limit, or has no room
abbrev pub IsRefused : TextRefusal → List ℕ → Vec ℕ Global → Type 0
IsRefused LongText text old = most_text < vec_len old + length text
IsRefused NoMemory text old = vec_capacity old < vec_len old + length text

-- the text was appended, or there is why it was not
abbrev pub Appends : {A : Type 0} → Result A TextRefusal → List ℕ → Vec ℕ Global → Vec ℕ Global → Type 0
Appends (Ok _) text old new = IsAppended text old new
Appends (Err refusal) text old new = IsRefused refusal text old
