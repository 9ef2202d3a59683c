-- A cutter between two bytes of its input, and what takes its lines.
use Rattle.std.specs.Prelude.{◌≡◌, ℕ, ◌≤◌, ◌<◌, ◌+◌, ◌-◌, ◌*◌, ◌++◌, List, length, false}
use Rattle.std.specs.List.{list_any}
use Rattle.memchr.specs.Find.{Nowhere, Passes, is_byte}
use Rattle.xns_lines.specs.Faults.{FaultyLines, StandsAfterThing}
use Rattle.xns_lines.specs.Lines.{AreWithinLimits, closed_lines, is_long, lines_of, open_line, most_line_bytes}
use Rattle.xns_lines.specs.declared.cutter.Cutter.{Cutter}
use Rattle.xns_lines.specs.declared.fault.RunFault.{RunFault}
use Rattle.xns_lines.specs.declared.fault.RunFault.TheVariants as fault

-- what a taker stands for, as a function of the lines taken
abbrev pub Says : Type 1
Says = List (List ℕ) → Type 0

-- the cutter has taken these bytes, of an input of at most so many lines
pub record HasCut (most : ℕ) (cutter : Cutter) (taken : List ℕ) : Type 0 where
  pub limit : cutter.most ≡ most
  pub line : cutter.line.items ≡ open_line taken
  pub count : cutter.count ≡ length (closed_lines taken)
  pub closed_short : list_any is_long (closed_lines taken) ≡ false
  pub open_short : length (open_line taken) ≤ most_line_bytes
  pub few : length (lines_of taken) ≤ most

-- the cutter has taken these bytes, and the taker stands for the lines that are over
abbrev pub HasTaken : ℕ → Cutter → Says → List ℕ → Type 0
HasTaken most cutter stands taken = HasCut most cutter taken × stands (closed_lines taken)

-- the bytes at which a fault of limits is found, and those behind them
abbrev pub IsJustifiedAt : ℕ → RunFault → List ℕ → List ℕ → Type 0
IsJustifiedAt most fault.Read front more = ⊥
IsJustifiedAt most fault.Write front more = Unit {0}
IsJustifiedAt most fault.LineTooLong front more = (length (closed_lines front) < most) × (most_line_bytes < length (open_line front))
IsJustifiedAt most fault.TooManyLines front more = (length (closed_lines front) ≡ most) × (0 < length more)
IsJustifiedAt most fault.NoMemory front more = Unit {0}

-- the cutter's own faults, at which the taker is as it was
abbrev pub IsOwn : RunFault → Type 0
IsOwn fault.Read = ⊥
IsOwn fault.Write = ⊥
IsOwn _ = Unit {0}

-- what is left of the taker after a fault: after a failed write what `fails` says, else it stands for the lines
abbrev pub StandsAfter : RunFault → Says → Says → List (List ℕ) → Type 0
StandsAfter fault.Write stands fails lines = fails lines
StandsAfter _ stands fails lines = stands lines

-- a taker's fault at a line: without memory it stands for the lines before it, and after a failed write the line is taken
abbrev pub StandsAfterLine : RunFault → Says → Says → List (List ℕ) → List ℕ → Type 0
StandsAfterLine f stands fails lines line = StandsAfterThing f stands fails lines line

-- a place among these bytes at which the cutter finds a fault: what stands before it, and more
pub record FaultPlace (most : ℕ) (f : RunFault) (taken : List ℕ) : Type 0 where
  pub front : List ℕ
  pub more : List ℕ
  pub parts : front ++ more ≡ taken
  pub within : AreWithinLimits most (closed_lines front)
  pub found : IsJustifiedAt most f front more

-- the cutter stopped within these bytes, and `left` holds of the lines that are over at that place
pub record IsCutShort (most : ℕ) (f : RunFault) (taken : List ℕ) (left : Says) : Type 0 where
  pub place : FaultPlace most f taken
  pub is_left : left (closed_lines place.front)

-- after a fault: `left` holds of the good lines among those of what was read
pub record StopsShort (most : ℕ) (f : RunFault) (read : List ℕ) (left : Says) : Type 0 where
  pub lines : FaultyLines most f read
  pub is_left : left lines.good

-- how many bytes the limits still allow, at most
abbrev pub room_of : Cutter → ℕ
room_of cutter = (cutter.most - cutter.count) * (most_line_bytes + 1) + (most_line_bytes - length cutter.line.items)

-- no byte of the run is 10
abbrev pub HasNoNewline : List ℕ → Type 0
HasNoNewline run = Nowhere (Passes (is_byte 10) run) 0 (length run)
