-- What stands after a fault: what was written, and what justifies the fault.
use Rattle.std.specs.Prelude.{◌≡◌, ℕ, ◌<◌, List, [], ◌∷◌, ◌++◌, length, Option}
use Rattle.std.specs.Io.KnownBytes.{Appends}
use Rattle.xns_lines.specs.Lines.{AreWithinLimits, BeginsLong, closed_lines, lines_of}
use Rattle.xns_lines.specs.declared.fault.RunFault.{RunFault}
use Rattle.xns_lines.specs.declared.fault.RunFault.TheVariants as fault

abbrev pub Begins : List ℕ → List ℕ → Type 0
Begins front text = (rest : List ℕ) × (front ++ rest ≡ text)

-- the text goes on behind the prefix
abbrev pub GoesOn : List ℕ → List ℕ → Type 0
GoesOn front text = (rest : List ℕ) × (0 < length rest) × (front ++ rest ≡ text)

-- a writer with `before` has now `after`: a prefix of the text was written
abbrev pub AppendsFront : Option (List ℕ) → Option (List ℕ) → List ℕ → Type 0
AppendsFront before after text = (front : List ℕ) × Appends before after front × Begins front text

-- a prefix of the text was written, and something of the text was not
abbrev pub AppendsPart : Option (List ℕ) → Option (List ℕ) → List ℕ → Type 0
AppendsPart before after text = (front : List ℕ) × Appends before after front × GoesOn front text

-- what justifies the fault of an input of at most so many lines: of the lines of what was read these are good, and those come next
abbrev pub IsJustified : ℕ → RunFault → List ℕ → List (List ℕ) → List (List ℕ) → Type 0
IsJustified most fault.Read read good next = good ≡ closed_lines read
IsJustified most fault.Write read good next = Unit {0}
IsJustified most fault.LineTooLong read good next = (length good < most) × BeginsLong next
IsJustified most fault.TooManyLines read good next = (length good ≡ most) × (0 < length next)
IsJustified most fault.NoMemory read good next = Unit {0}

-- the lines of what was read, at a fault: the good ones, and the ones that come next, which justify the fault
pub record FaultyLines (most : ℕ) (f : RunFault) (read : List ℕ) : Type 0 where
  pub good : List (List ℕ)
  pub next : List (List ℕ)
  pub joined : lines_of read ≡ good ++ next
  pub within : AreWithinLimits most good
  pub justified : IsJustified most f read good next

-- the text is written, and after a failed write a prefix of it and not all
abbrev pub HasWritten : RunFault → Option (List ℕ) → Option (List ℕ) → List ℕ → Type 0
HasWritten fault.Write before after text = AppendsPart before after text
HasWritten _ before after text = Appends before after text

-- a taker's fault at a thing: without memory it stands for the things before it, and after a failed write the thing is taken
abbrev pub StandsAfterThing : {A : Type 0} → RunFault → (List A → Type 0) → (List A → Type 0) → List A → A → Type 0
StandsAfterThing fault.NoMemory stands fails things next = stands things
StandsAfterThing fault.Write stands fails things next = fails (things ++ next ∷ [])
StandsAfterThing _ stands fails things next = ⊥

-- what holds where the fault is a want of memory
abbrev pub IfWants : RunFault → Type 0 → Type 0
IfWants fault.NoMemory wants = wants
IfWants _ wants = Unit {0}
