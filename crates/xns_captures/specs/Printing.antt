-- What is printed of the packets of a capture and of its end, after a fault.
use Rattle.std.specs.Prelude.{◌≡◌, ℕ, ◌≤◌, ◌⊎◌, ◌++◌, Bool, List, [], Option, None}
use Rattle.std.specs.Io.KnownBytes.{Appends}
use Rattle.xns_lines.specs.Faults.{HasWritten}
use Rattle.xns_lines.specs.Printing.{EndCount, HasFailed, Output, Stands, TextWithEnd, text_to_end}
use Rattle.xns_lines.specs.Printouts.{Printout}
use Rattle.xns_lines.specs.declared.pages.Pages.{Pages}
use Rattle.xns_captures.specs.Captures.{NumberedPacket, capture_fault, packets_of}
use Rattle.xns_captures.specs.Reading.{IsJustified, StandsAfter}
use Rattle.xns_captures.specs.declared.file_fault.FileFault.{FileFault}
use Rattle.xns_captures.specs.declared.file_fault.FileFault.TheVariants.{Run, Capture}

-- ---- after a fault

-- of the packets of the file these are taken, and so many parts of the end behind them, which come behind all packets alone
pub record IsFront (end_count : EndCount NumberedPacket) (file : List ℕ) (front : List NumberedPacket) (part : ℕ) : Type 0 where
  pub rest : List NumberedPacket
  pub joined : front ++ rest ≡ packets_of file
  pub few : part ≤ end_count front
  pub place : (part ≡ 0) ⊎ (rest ≡ [])

-- a fault of the capture comes behind all its packets and before the end, and any other behind a front of them
abbrev pub StopsWith : FileFault → EndCount NumberedPacket → List ℕ → (List NumberedPacket → ℕ → Type 0) → Type 0
StopsWith (Capture why) end_count file left = IsJustified (Capture why) file × left (packets_of file) 0
StopsWith fault end_count file left =
    IsJustified fault file × (front : List NumberedPacket) × (part : ℕ) × IsFront end_count file front part × left front part

-- after a failed write a prefix of the text is written and not all, and else the text
abbrev pub WritesBy : FileFault → Option (List ℕ) → Option (List ℕ) → List ℕ → Type 0
WritesBy (Run f) before after text = HasWritten f before after text
WritesBy _ before after text = Appends before after text

-- after a fault the text of the packets before it is written
abbrev pub StopsIn : TextWithEnd NumberedPacket → EndCount NumberedPacket → FileFault → List ℕ → Option (List ℕ) → Option (List ℕ) → Type 0
StopsIn text_of end_count fault file before after =
    StopsWith fault end_count file (λ packets part. WritesBy fault before after (text_of packets part))

-- what is printed of the packets of a file, and of its end
abbrev pub packets_printout : TextWithEnd NumberedPacket → (List NumberedPacket → ℕ → Bool) → EndCount NumberedPacket → Printout FileFault
packets_printout text_of has_refused end_count = record {
  text = λ file. text_to_end text_of end_count (packets_of file);
  is_refused = λ file. has_refused (packets_of file) (end_count (packets_of file));
  is_good = λ file. capture_fault file ≡ None;
  stops_in = λ file left before after fault. StopsIn text_of end_count fault file before after;
}

-- ---- what was taken of a file, by the old pages, which became the new ones: the writer held `held` then, and holds `after` now

-- the packets were taken to the end of a file without a fault, and its end
abbrev pub TakesAll : {P : Type 0} → Output P NumberedPacket → Pages P → Pages P → Option (List ℕ) → Option (List ℕ) → List ℕ → Type 0
TakesAll output old new held after file = (before : Option (List ℕ)) → Stands output 0 old before held []
    → (capture_fault file ≡ None) × Stands output (output.end_count (packets_of file)) new before after (packets_of file)

-- the packets were taken up to a fault
abbrev pub TakesSome : {P : Type 0} → Output P NumberedPacket → FileFault → Pages P → Pages P → Option (List ℕ) → Option (List ℕ) → List ℕ → Type 0
TakesSome output fault old new held after file = (before : Option (List ℕ)) → Stands output 0 old before held []
    → StopsWith fault output.end_count file (λ packets part. StandsAfter fault (Stands output part new before after)
    (HasFailed output part new before after) packets)
