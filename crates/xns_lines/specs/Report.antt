-- Text that grows line by line.
use Rattle.std.specs.Prelude.{◌≡◌, ◌<◌, ◌+◌, ℕ, List, ◌++◌, length, Result, OnOk}

-- the lines before the latest, what there is of the latest, and for how many bytes of text there is room
pub record ReportModel : Type 0 where
  pub front : List ℕ
  pub line : List ℕ
  pub room : ℕ

-- all of the text
abbrev pub whole : ReportModel → List ℕ
whole report = report.front ++ report.line

-- the front is as it was, whatever the result; without a refusal the line has this text more
pub record Adds {T E : Type 0} (result : Result T E) (old new : ReportModel) (text : List ℕ) : Type 0 where
  pub front : new.front ≡ old.front
  pub line : OnOk result (new.line ≡ old.line ++ text)

-- there is no room for this text behind all text
abbrev pub LacksRoom : ReportModel → List ℕ → Type 0
LacksRoom report text = report.room < length (whole report) + length text
