-- What is printed of the lines of an input, or of other things in it, and of its end, between two of them and after a fault.
use Rattle.std.specs.Prelude.{◌≡◌, ℕ, ◌+◌, ◌≤◌, ◌⊎◌, ◌++◌, Bool, false, true, List, [], ◌∷◌, Option, Some}
use Rattle.std.specs.Io.KnownBytes.{Appends, Consumes}
use Rattle.xns_lines.specs.Faults.{AppendsFront, AppendsPart, FaultyLines, HasWritten}
use Rattle.xns_lines.specs.Lines.{IsWithinLimits, lines_of}
use Rattle.xns_lines.specs.Lines.Cutter.{Says, StandsAfter}
use Rattle.xns_lines.specs.Report.{whole}
use Rattle.xns_lines.specs.declared.fault.RunFault.{RunFault}
use Rattle.xns_lines.specs.declared.fault.RunFault.TheVariants as fault
use Rattle.xns_lines.specs.declared.page.Page.{Page}
use Rattle.xns_lines.specs.declared.pages.Pages.{Pages}

-- what things say: the lines of an input, or other things that are taken from one in order
abbrev pub TextOf : Type 0 → Type 0
TextOf A = List A → List ℕ

-- what things say, and so many parts of the end of the input behind the things
abbrev pub TextWithEnd : Type 0 → Type 0
TextWithEnd A = List A → ℕ → List ℕ

-- how many parts the end of the input has behind things
abbrev pub EndCount : Type 0 → Type 0
EndCount A = List A → ℕ

-- what things say, and all parts of the end of the input behind the things
abbrev pub text_to_end : {A : Type 0} → TextWithEnd A → EndCount A → List A → List ℕ
text_to_end text_of end_count things = text_of things (end_count things)

-- whether one of the things is refused
abbrev pub HasRefused : Type 0 → Type 0
HasRefused A = List A → Bool

-- ---- a line, or another thing

-- a thing's text begins on the page behind the text of the things before it
pub record IsBegun {A : Type 0} (has_refused : HasRefused A) (page : Page) (things : List A) : Type 0 where
  pub text : page.text.line ≡ []
  pub refused : page.is_refused ≡ has_refused things

-- the next thing is printed: its text is what the things with it say more than the things without it
pub record IsPrinted {A : Type 0} (has_printed : List A → Type 0) (text_of : TextOf A) (has_refused : HasRefused A) (page : Page)
    (things : List A) (next : A) : Type 0 where
  pub printed : has_printed (things ++ next ∷ [])
  pub text : text_of (things ++ next ∷ []) ≡ text_of things ++ page.text.line
  pub refused : page.is_refused ≡ has_refused (things ++ next ∷ [])

-- the next part of the end is printed, behind so many: its text is what one part more says
pub record IsEndPrinted (has_printed : ℕ → Type 0) (text_of : ℕ → List ℕ) (has_refused : ℕ → Bool) (page : Page) (part : ℕ) : Type 0 where
  pub printed : has_printed (part + 1)
  pub text : text_of (part + 1) ≡ text_of part ++ page.text.line
  pub refused : page.is_refused ≡ has_refused (part + 1)

-- ---- between two things

-- what a printer puts out: what holds of it once it has printed some things and so many parts of the end behind them, what these say, whether
-- something of them is refused, and how many parts the end has
pub record Output (P A : Type 0) : Type 1 where
  pub has_printed : P → List A → ℕ → Type 0
  pub text_of : TextWithEnd A
  pub has_refused : List A → ℕ → Bool
  pub end_count : EndCount A

-- the printer has printed nothing; no things have no text, and none of them is refused
pub record IsSilent {P A : Type 0} (output : Output P A) (printer : P) : Type 0 where
  pub printed : output.has_printed printer [] 0
  pub text : output.text_of [] 0 ≡ []
  pub refused : output.has_refused [] 0 ≡ false

-- the writer, which held `before`, has the text but for what is pending
abbrev pub IsWritten : Option (List ℕ) → Option (List ℕ) → List ℕ → List ℕ → Type 0
IsWritten before after pending text = (out : List ℕ) × Appends before after out × (out ++ pending ≡ text)

-- the writer, which held `before`, has the text of these things and of so many parts of the end, but for what is on the page; the printer has
-- printed them, until memory is refused
pub record Stands {P A : Type 0} (output : Output P A) (part : ℕ) (pages : Pages P) (before after : Option (List ℕ)) (things : List A)
    : Type 0 where
  pub refused : pages.page.is_refused ≡ output.has_refused things part
  pub written : IsWritten before after (whole pages.page.text) (output.text_of things part)
  pub printed : pages.is_lost ≡ false → output.has_printed pages.printer things part

-- after a failed write nothing is pending, and something of the text was not written
abbrev pub HasFailed : {P A : Type 0} → Output P A → ℕ → Pages P → Option (List ℕ) → Option (List ℕ) → List A → Type 0
HasFailed output part pages before after things = (whole pages.page.text ≡ []) × AppendsPart before after (output.text_of things part)

-- a write of what is pending: with whatever parts of the end, the pages stand for what they stood for
abbrev pub StandsStill : {P A : Type 0} → Output P A → Pages P → Pages P → Option (List ℕ) → Option (List ℕ) → Type 0
StandsStill {P} {A} output old new was is = (part : ℕ) (before : Option (List ℕ)) (things : List A)
    → Stands output part old before was things → Stands output part new before is things

-- a write of what is pending that failed: something of what the pages stood for was not written
abbrev pub HasFailedToWrite : {P A : Type 0} → Output P A → Pages P → Pages P → Option (List ℕ) → Option (List ℕ) → Type 0
HasFailedToWrite {P} {A} output old new was is = (part : ℕ) (before : Option (List ℕ)) (things : List A)
    → Stands output part old before was things → HasFailed output part new before is things

-- memory may be refused for a thing: it was refused before, or the printer wants some for the thing, on a page whose next line begins
abbrev pub WantsAtLine : {P A : Type 0} → (P → Page → A → Type 0) → Pages P → A → Type 0
WantsAtLine wants pages thing = (pages.is_lost ≡ true)
    ⊎ ((begun : Page) × (whole begun.text ≡ whole pages.page.text) × (begun.text.line ≡ []) × (begun.is_refused ≡ pages.page.is_refused)
    × wants pages.printer begun thing)

-- ---- after a fault

-- behind some parts of the end memory was refused, or a write of their text failed
abbrev pub StandsInEnd : RunFault → Type 0 → Type 0 → Type 0
StandsInEnd fault.NoMemory stands fails = stands
StandsInEnd fault.Write stands fails = fails
StandsInEnd _ stands fails = ⊥

-- the fault came behind some number of parts of the end, at most this many
abbrev pub StopsInEnd : {P A : Type 0} → Output P A → RunFault → ℕ → Pages P → Option (List ℕ) → Option (List ℕ) → List A → Type 0
StopsInEnd output f most pages before after things = (part : ℕ) × (part ≤ most)
    × StandsInEnd f (Stands output part pages before after things) (HasFailed output part pages before after things)

-- ---- the lines of an input

-- at the end of the input, which was read whole and has good lines alone, memory or a write was refused
abbrev pub IsAtEnd : RunFault → List ℕ → List ℕ → List (List ℕ) → Type 0
IsAtEnd fault.Write input read next = (read ≡ input) × (next ≡ [])
IsAtEnd fault.NoMemory input read next = (read ≡ input) × (next ≡ [])
IsAtEnd _ input read next = ⊥

-- the claim holds of the good lines among those that were read, and of some parts of the end; parts of the end are there only where all was
-- read
pub record StopsAt (most : ℕ) (end_count : EndCount (List ℕ)) (f : RunFault) (input read : List ℕ) (left : ℕ → Says) : Type 0 where
  pub lines : FaultyLines most f read
  pub part : ℕ
  pub few : part ≤ end_count lines.good
  pub place : (part ≡ 0) ⊎ IsAtEnd f input read lines.next
  pub is_left : left part lines.good

-- a prefix of the text of what was read is written, and that is the text of all lines before the one at which it stopped; what was read
-- is the prefix of the input that is no longer left
pub record StopsIn (most : ℕ) (text_of : TextWithEnd (List ℕ)) (end_count : EndCount (List ℕ)) (input : List ℕ) (left before after : Option (List ℕ))
    (f : RunFault) : Type 0 where
  pub read : List ℕ
  pub consumed : Consumes (Some input) left read
  pub front : AppendsFront before after (text_to_end text_of end_count (lines_of read))
  pub stops : StopsAt most end_count f input read (λ part good. HasWritten f before after (text_of good part))

-- ---- what was taken of an input, by the old pages, which became the new ones: the writer held `held` then, and holds `after` now

-- the lines were taken to the end, and its end
abbrev pub TakesAll : {P : Type 0} → ℕ → Output P (List ℕ) → Pages P → Pages P → Option (List ℕ) → Option (List ℕ) → Option (List ℕ)
    → List ℕ → Type 0
TakesAll most output old new held after left input = Consumes (Some input) left input
    × IsWithinLimits most input
    × ((before : Option (List ℕ)) → Stands output 0 old before held []
    → Stands output (output.end_count (lines_of input)) new before after (lines_of input))

-- the lines were taken up to a fault
abbrev pub TakesSome : {P : Type 0} → ℕ → Output P (List ℕ) → RunFault → Pages P → Pages P → Option (List ℕ) → Option (List ℕ) → Option (List ℕ)
    → List ℕ → Type 0
TakesSome most output f old new held after left input = (read : List ℕ)
    × Consumes (Some input) left read
    × ((before : Option (List ℕ)) → Stands output 0 old before held []
    → StopsAt most output.end_count f input read (λ part. StandsAfter f (Stands output part new before after) (HasFailed output part new before after)))
