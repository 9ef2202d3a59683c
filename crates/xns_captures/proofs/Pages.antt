-- What is printed of packets, as they are taken and written.
use Rattle.std.proofs.Common.{◌≡◌, ◌∙◌, sym, refl, arith, ℕ, ◌≤◌, inl, inr, List, [], append-nil, subst, Option, Some, None, Result, Ok, Err}
use Rattle.std.specs.Prelude.{IfErr, IfSome, OnOk}
use Rattle.std.specs.Io.KnownBytes.{Appends}
use Rattle.std.proofs.lemmas.Option.{IfSome_then}
use Rattle.xns_lines.specs.Faults.{AppendsPart}
use Rattle.xns_lines.specs.Report.{whole}
use Rattle.xns_lines.specs.declared.page.Page.{Page}
use Rattle.xns_lines.specs.declared.pages.Pages.{Pages}
use Rattle.xns_lines.specs.declared.fault.RunFault.{RunFault}
use Rattle.xns_lines.specs.declared.fault.RunFault.TheVariants as run
use Rattle.xns_lines.proofs.OnPages.{all_left, none_left, part_left, whole_front}
use Rattle.xns_lines.proofs.Writes.{appends_nothing}
use Rattle.xns_captures.specs.Captures.{NumberedPacket, packets_of}
use Rattle.xns_lines.specs.Printing.{EndCount, HasFailed, Output, Stands, StopsInEnd, TextWithEnd}
use Rattle.xns_lines.specs.Printouts.{Prints}
use Rattle.xns_captures.specs.Printing.{IsFront, StopsIn, StopsWith, TakesAll, TakesSome, WritesBy, packets_printout}
use Rattle.xns_captures.specs.Reading.{Says, StandsAfter, StopsBy}
use Rattle.xns_captures.specs.declared.file_fault.FileFault.{FileFault}
use Rattle.xns_captures.specs.declared.file_fault.FileFault.TheVariants.{Run, Capture, TooManyFrames}

-- ---- where it stopped

-- a fault while packets were taken
pub stops_with : (fault : FileFault) (ends : EndCount NumberedPacket) (file : List ℕ) (left : List NumberedPacket → ℕ → Type 0)
    → StopsBy fault file (λ packets. left packets 0) → StopsWith fault ends file left
stops_with (Capture why) ends file left h = h
stops_with (Run f) ends file left h =
    (h.0, h.1, 0, record { rest = h.2; joined = h.3; few = omega arith; place = inl refl }, h.4)
stops_with TooManyFrames ends file left h =
    (h.0, h.1, 0, record { rest = h.2; joined = h.3; few = omega arith; place = inl refl }, h.4)

-- behind all packets
at_end : (ends : EndCount NumberedPacket) (file : List ℕ) (part : ℕ) → part ≤ ends (packets_of file) → IsFront ends file (packets_of file) part
at_end ends file part few = record { rest = []; joined = append-nil (packets_of file); few = few; place = inr refl }

-- a fault at the end of the file
pub stops_in_end : {P : Type 0} (f : RunFault) (output : Output P NumberedPacket) (file : List ℕ) (pages : Pages P) (before after : Option (List ℕ))
    → StopsInEnd output f (output.end_count (packets_of file)) pages before after (packets_of file)
    → StopsWith (Run f) output.end_count file (λ packets part. StandsAfter (Run f) (Stands output part pages before after) (HasFailed output part pages before after) packets)
stops_in_end run.Read output file pages before after h = absurd h.2
stops_in_end run.LineTooLong output file pages before after h = absurd h.2
stops_in_end run.TooManyLines output file pages before after h = absurd h.2
stops_in_end run.NoMemory output file pages before after h = (tt, packets_of file, h.0, at_end output.end_count file h.0 h.1, h.2)
stops_in_end run.Write output file pages before after h = (tt, packets_of file, h.0, at_end output.end_count file h.0 h.1, h.2)

stops_map : (fault : FileFault) (ends : EndCount NumberedPacket) (file : List ℕ) (L M : List NumberedPacket → ℕ → Type 0)
    → ((packets : List NumberedPacket) (part : ℕ) → L packets part → M packets part)
    → StopsWith fault ends file L → StopsWith fault ends file M
stops_map (Capture why) ends file L M f h = (h.0, f (packets_of file) 0 h.1)
stops_map (Run r) ends file L M f h = (h.0, h.1, h.2, h.3, f h.1 h.2 h.4)
stops_map TooManyFrames ends file L M f h = (h.0, h.1, h.2, h.3, f h.1 h.2 h.4)

-- after another fault a write fails
stops_writing : (fault : FileFault) (ends : EndCount NumberedPacket) (file : List ℕ) (L M : List NumberedPacket → ℕ → Type 0)
    → ((packets : List NumberedPacket) (part : ℕ) → L packets part → M packets part)
    → StopsWith fault ends file L → StopsWith (Run run.Write) ends file M
stops_writing (Capture why) ends file L M f h =
    (tt, packets_of file, 0, at_end ends file 0 (omega arith), f (packets_of file) 0 h.1)
stops_writing (Run r) ends file L M f h = (tt, h.1, h.2, h.3, f h.1 h.2 h.4)
stops_writing TooManyFrames ends file L M f h = (tt, h.1, h.2, h.3, f h.1 h.2 h.4)

module _ {P : Type 0} (output : Output P NumberedPacket) (old new : Pages P) (before mid after : Option (List ℕ)) where
  abbrev StandsAt : ℕ → Says
  StandsAt part = Stands output part new before mid

  abbrev FailsAt : ℕ → Says
  FailsAt part = HasFailed output part new before mid

  -- what is pending is written
  written : (fault : FileFault) (packets : List NumberedPacket) (part : ℕ) → Appends mid after (whole new.page.text)
      → StandsAfter fault (StandsAt part) (FailsAt part) packets → WritesBy fault before after (output.text_of packets part)
  written TooManyFrames packets part text h = all_left output part new mid after before packets text h
  written (Capture why) packets part text h = all_left output part new mid after before packets text h
  written (Run run.Write) packets part text h =
      none_left before mid after (whole new.page.text) (output.text_of packets part) h.0 (whole_front mid after (whole new.page.text) text) h.1
  written (Run run.Read) packets part text h = all_left output part new mid after before packets text h
  written (Run run.LineTooLong) packets part text h = all_left output part new mid after before packets text h
  written (Run run.TooManyLines) packets part text h = all_left output part new mid after before packets text h
  written (Run run.NoMemory) packets part text h = all_left output part new mid after before packets text h

  -- a part of it is
  unwritten : (fault : FileFault) (packets : List NumberedPacket) (part : ℕ) → AppendsPart mid after (whole new.page.text)
      → StandsAfter fault (StandsAt part) (FailsAt part) packets → AppendsPart before after (output.text_of packets part)
  unwritten TooManyFrames packets part text h = part_left output part new mid after before packets text h
  unwritten (Capture why) packets part text h = part_left output part new mid after before packets text h
  unwritten (Run run.Write) packets part text h =
      none_left before mid after (whole new.page.text) (output.text_of packets part) h.0 (text.0, text.1, (text.2.0, text.2.2)) h.1
  unwritten (Run run.Read) packets part text h = part_left output part new mid after before packets text h
  unwritten (Run run.LineTooLong) packets part text h = part_left output part new mid after before packets text h
  unwritten (Run run.TooManyLines) packets part text h = part_left output part new mid after before packets text h
  unwritten (Run run.NoMemory) packets part text h = part_left output part new mid after before packets text h

  module _ (begun : Stands output 0 old before before []) where
    abbrev pub All : List ℕ → Type 0
    All file = TakesAll output old new before mid file

    abbrev pub Some_of : FileFault → List ℕ → Type 0
    Some_of fault file = TakesSome output fault old new before mid file

    pub flushed_all : (page : Page) (given left : Option (List ℕ)) → page.is_refused ≡ new.page.is_refused → Appends mid after (whole new.page.text) → IfSome given All
        → Prints (packets_printout output.text_of output.has_refused output.end_count) (Ok page.is_refused) given left before after
    flushed_all page given left same text all = IfSome_then given all (λ file h.
        let said = h before begun in
        record { text = all_left output _ new mid after before (packets_of file) text said.1; refused = same ∙ said.1.refused; good = said.0 })

    pub flushed_some : (fault : FileFault) (file : List ℕ) → Appends mid after (whole new.page.text) → Some_of fault file
        → StopsIn output.text_of output.end_count fault file before after
    flushed_some fault file text some =
        stops_map fault output.end_count file _ _ (λ packets part h. written fault packets part text h) (some before begun)

    unflushed_all : (file : List ℕ) → AppendsPart mid after (whole new.page.text) → All file → StopsIn output.text_of output.end_count (Run run.Write) file before after
    unflushed_all file part all = (
      tt,
      packets_of file,
      output.end_count (packets_of file),
      at_end output.end_count file (output.end_count (packets_of file)) (omega arith),
      part_left output _ new mid after before (packets_of file) part (all before begun).1,
    )

    unflushed_some : (fault : FileFault) (file : List ℕ) → AppendsPart mid after (whole new.page.text) → Some_of fault file
        → StopsIn output.text_of output.end_count (Run run.Write) file before after
    unflushed_some fault file part some =
        stops_writing fault output.end_count file _ _ (λ packets k h. unwritten fault packets k part h) (some before begun)

    pub unflushed : (r : Result Unit FileFault) (f : RunFault) (left : Option (List ℕ)) → (f ≡ run.Write) × AppendsPart mid after (whole new.page.text)
        → OnOk r (IfSome left All) → IfErr r (λ e. IfSome left (Some_of e))
        → IfSome left (λ file. StopsIn output.text_of output.end_count (Run f) file before after)
    unflushed (Ok x) f left failed all some = rw failed.0 (IfSome_then left all (λ file h. unflushed_all file failed.1 h))
    unflushed (Err e) f left failed all some = rw failed.0 (IfSome_then left some (λ file h. unflushed_some e file failed.1 h))

-- ---- before anything is read

-- where no packets have no text, a want of memory before anything is read or written stops in the file
pub at_first : (text_of : TextWithEnd NumberedPacket) (ends : EndCount NumberedPacket) (left held : Option (List ℕ)) → text_of [] 0 ≡ []
    → IfSome left (λ file. StopsIn text_of ends (Run run.NoMemory) file held held)
at_first text_of ends None held none = tt
at_first text_of ends (Some file) held none =
    (tt, [], 0, record { rest = packets_of file; joined = refl; few = omega arith; place = inl refl }, subst (Appends held held) (sym none) (appends_nothing held))
