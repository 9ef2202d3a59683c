-- Descriptions of remote programs, read from files and printed.
use Rattle.std.specs.Prelude.{◌≡◌, ℕ, List, [], ◌∷◌, ◌++◌, take, Option, Result, Ok, Err}
use Rattle.std.specs.Io.KnownBytes.{Appends}
use Rattle.courier_programs.specs.declared.program.Program.{Program}
use Rattle.courier_programs.specs.declared.program_refusal.ProgramReason.{ProgramReason}
use Rattle.courier_programs.specs.Meanings.{resolved_model}
use Rattle.courier_programs.specs.Texts.{position_behind, text_meant}
use Rattle.call_texts.specs.Listing.{program_text}
use Rattle.xns_lines.specs.Faults.{AppendsPart}
use Rattle.xns_lines.specs.declared.fault.RunFault.{RunFault}
use Rattle.xns_lines.specs.declared.fault.RunFault.TheVariants as run
use Rattle.xns_command.specs.declared.description_fault.DescriptionFault.{DescriptionFault}
use Rattle.xns_command.specs.declared.description_fault.DescriptionFault.TheVariants.{Run, Wrong}

-- the text is that program, behind those that were read before it
abbrev pub IsProgram : Program → List ℕ → List Program → Type 0
IsProgram program text before = text_meant text before ≡ Ok (resolved_model program)

-- the first fault of the text stands at that line and column
abbrev pub IsWrong : ℕ → ℕ → ProgramReason → List ℕ → List Program → Type 0
IsWrong line column reason text before =
    (place : ℕ) × (text_meant text before ≡ Err (place, reason)) × ((line, column) ≡ position_behind (take place text))

-- a read failed, or memory was refused
abbrev pub IsUnread : RunFault → Type 0
IsUnread run.Read = Unit {0}
IsUnread run.NoMemory = Unit {0}
IsUnread _ = ⊥

-- the fault is why the text, read behind these programs, is no program
abbrev pub IsFaultOf : DescriptionFault → List ℕ → List Program → Type 0
IsFaultOf (Wrong line column reason) text before = IsWrong line column reason text before
IsFaultOf (Run fault) text before = IsUnread fault

-- a text was read behind these programs
abbrev pub IsDescribed : Result Program DescriptionFault → List ℕ → List Program → Type 0
IsDescribed (Ok program) text before = IsProgram program text before
IsDescribed (Err fault) text before = IsFaultOf fault text before

-- the text is one program more, whose lines are so written
abbrev pub IsTaken : List ℕ → List Program → List Program → (List ℕ → Type 0) → Type 0
IsTaken text before after writes =
    (program : Program) × IsProgram program text before × (after ≡ before ++ program ∷ []) × writes (program_text (resolved_model program))

-- a text was read behind these programs, and its program was put behind them
abbrev pub TakesDescription : Result Unit DescriptionFault → List ℕ → List Program → List Program → Type 0
TakesDescription (Ok done) text before after = (program : Program) × IsProgram program text before × (after ≡ before ++ program ∷ [])
TakesDescription (Err fault) text before after = IsFaultOf fault text before × (after ≡ before)

-- after a fault nothing is written or taken, but where the write failed
abbrev pub StopsPrinting : DescriptionFault → List ℕ → List Program → List Program → Option (List ℕ) → Option (List ℕ) → Type 0
StopsPrinting (Run run.Write) text before after held written = IsTaken text before after (AppendsPart held written)
StopsPrinting fault text before after held written = IsFaultOf fault text before × (after ≡ before) × (written ≡ held)

-- a text was read behind these programs, and its program's lines were written
abbrev pub PrintsDescription : Result Unit DescriptionFault → List ℕ → List Program → List Program → Option (List ℕ) → Option (List ℕ) → Type 0
PrintsDescription (Ok done) text before after held written = IsTaken text before after (Appends held written)
PrintsDescription (Err fault) text before after held written = StopsPrinting fault text before after held written

-- the program's exit status
abbrev pub status_of : Result Unit DescriptionFault → ℕ
status_of (Ok done) = 0
status_of (Err (Wrong line column reason)) = 2
status_of (Err (Run fault)) = 3
