-- What is printed of lines, as they are taken and written.
use Rattle.std.proofs.Common.{◌≡◌, ◌∙◌, ap, sym, refl, arith, ℕ, zero, suc, ◌+◌, ◌-◌, ◌≤◌, ◌⊎◌, inl, inr, List, [], ◌∷◌, ◌++◌, append-nil, subst, Option, Result, Ok, Err}
use Rattle.std.specs.Prelude.{IfErr, IfSome, OnOk}
use Rattle.std.specs.Io.KnownBytes.{Appends}
use Rattle.std.proofs.lemmas.Option.{IfSome_then}
use Rattle.xns_lines.specs.Faults.{AppendsFront, AppendsPart, Begins, HasWritten, IsJustified}
use Rattle.xns_lines.specs.Lines.{IsWithinLimits, lines_of}
use Rattle.xns_lines.specs.Lines.Cutter.{Says, StandsAfter, StopsShort}
use Rattle.xns_lines.specs.Printing.{EndCount, HasFailed, IsAtEnd, Output, Stands, StopsAt, StopsIn, StopsInEnd, TakesAll, TakesSome, text_to_end}
use Rattle.xns_lines.specs.Printouts.{Prints, lines_printout}
use Rattle.xns_lines.specs.Report.{whole}
use Rattle.xns_lines.specs.declared.fault.RunFault.{RunFault}
use Rattle.xns_lines.specs.declared.fault.RunFault.TheVariants as fault
use Rattle.xns_lines.specs.declared.page.Page.{Page}
use Rattle.xns_lines.specs.declared.pages.Pages.{Pages}
use Rattle.xns_lines.proofs.Cuts.{all_lines}
use Rattle.xns_lines.proofs.Writes.{appends_trans, begins_trans, part_written}

module _ {P A : Type 0} (output : Output P A) (part : ℕ) where
  -- the page is written
  pub flushed : (pages : Pages P) (page : Page) (before mid after : Option (List ℕ)) (things : List A) → whole page.text ≡ [] → page.is_refused ≡ pages.page.is_refused → Appends mid after (whole pages.page.text) → Stands output part pages before mid things
      → Stands output part (record { printer = pages.printer; page = page; is_lost = pages.is_lost }) before after things
  flushed pages page before mid after things none same text h = record {
    refused = same ∙ h.refused;
    written = (
      h.written.0 ++ whole pages.page.text,
      appends_trans before mid after _ _ h.written.1 text,
      ap (λ t. (h.written.0 ++ whole pages.page.text) ++ t) none ∙ append-nil (h.written.0 ++ whole pages.page.text) ∙ h.written.2,
    );
    printed = h.printed;
  }

pub whole_front : (before after : Option (List ℕ)) (text : List ℕ) → Appends before after text → AppendsFront before after text
whole_front before after text written = (text, written, ([], append-nil text))

part_front : (before after : Option (List ℕ)) (text : List ℕ) → AppendsPart before after text → AppendsFront before after text
part_front before after text part = (part.0, part.1, (part.2.0, part.2.2))

written_front : (f : RunFault) (before after : Option (List ℕ)) (text : List ℕ) → HasWritten f before after text → AppendsFront before after text
written_front fault.Write before after text written = part_front before after text written
written_front fault.Read before after text written = whole_front before after text written
written_front fault.LineTooLong before after text written = whole_front before after text written
written_front fault.TooManyLines before after text written = whole_front before after text written
written_front fault.NoMemory before after text written = whole_front before after text written

no_front : (front rest : List ℕ) → front ++ rest ≡ [] → front ≡ []
no_front [] rest e = refl
no_front (byte ∷ front) rest e = (cc)

-- where nothing is pending, nothing more is written
pub none_left : (before mid after : Option (List ℕ)) (pending text : List ℕ) → pending ≡ [] → AppendsFront mid after pending → AppendsPart before mid text → AppendsPart before after text
none_left before mid after pending text none front left =
    let nothing : front.0 ≡ [] = no_front front.0 front.2.0 (front.2.1 ∙ none) in (
      left.0 ++ front.0,
      appends_trans before mid after _ _ left.1 front.1,
      (left.2.0, left.2.1, ap (λ t. (left.0 ++ t) ++ left.2.0) nothing ∙ ap (λ t. t ++ left.2.0) (append-nil left.0) ∙ left.2.2),
    )

module _ {P A : Type 0} (output : Output P A) (part : ℕ) (pages : Pages P) (mid after : Option (List ℕ)) where
  -- what is pending is written
  pub all_left : (before : Option (List ℕ)) (things : List A) → Appends mid after (whole pages.page.text) → Stands output part pages before mid things → Appends before after (output.text_of things part)
  all_left before things written h = subst (Appends before after) h.written.2 (appends_trans before mid after _ _ h.written.1 written)

  -- or a part of it
  pub part_left : (before : Option (List ℕ)) (things : List A) → AppendsPart mid after (whole pages.page.text) → Stands output part pages before mid things → AppendsPart before after (output.text_of things part)
  part_left before things part_of h = part_written before mid after h.written.0 (whole pages.page.text) (output.text_of things part) h.written.1 h.written.2 part_of

-- what is left after a fault, of lines
module _ {P : Type 0} (output : Output P (List ℕ)) (part : ℕ) (pages : Pages P) (mid after : Option (List ℕ)) where
  abbrev StandsFor : Option (List ℕ) → Says
  StandsFor before lines = Stands output part pages before mid lines

  abbrev FailsFor : Option (List ℕ) → Says
  FailsFor before lines = HasFailed output part pages before mid lines

  left_part : (f : RunFault) (before : Option (List ℕ)) (lines : List (List ℕ)) → StandsAfter f (StandsFor before) (FailsFor before) lines → AppendsPart mid after (whole pages.page.text) → AppendsPart before after (output.text_of lines part)
  left_part fault.Write before lines left pending = none_left before mid after (whole pages.page.text) (output.text_of lines part) left.0 (part_front mid after (whole pages.page.text) pending) left.1
  left_part fault.Read before lines left pending = part_left output part pages mid after before lines pending left
  left_part fault.LineTooLong before lines left pending = part_left output part pages mid after before lines pending left
  left_part fault.TooManyLines before lines left pending = part_left output part pages mid after before lines pending left
  left_part fault.NoMemory before lines left pending = part_left output part pages mid after before lines pending left

  left_whole : (f : RunFault) (before : Option (List ℕ)) (lines : List (List ℕ)) → StandsAfter f (StandsFor before) (FailsFor before) lines → Appends mid after (whole pages.page.text) → HasWritten f before after (output.text_of lines part)
  left_whole fault.Write before lines left written = none_left before mid after (whole pages.page.text) (output.text_of lines part) left.0 (whole_front mid after (whole pages.page.text) written) left.1
  left_whole fault.Read before lines left written = all_left output part pages mid after before lines written left
  left_whole fault.LineTooLong before lines left written = all_left output part pages mid after before lines written left
  left_whole fault.TooManyLines before lines left written = all_left output part pages mid after before lines written left
  left_whole fault.NoMemory before lines left written = all_left output part pages mid after before lines written left

-- ---- the end of the input

-- the text with some parts is a prefix of that with more
ends_begin : (text : ℕ → List ℕ) → ((part : ℕ) → Begins (text part) (text (part + 1))) → (part more : ℕ) → Begins (text part) (text (part + more))
ends_begin text grows part zero =
    let e : part ≡ part + 0 = omega arith in ([], append-nil (text part) ∙ ap text e)
ends_begin text grows part (suc more) =
    let e : (part + more) + 1 ≡ part + suc more = omega arith in
    let last = grows (part + more) in
    begins_trans (text part) (text (part + more)) (text (part + suc more)) (ends_begin text grows part more) (last.0, last.1 ∙ ap text e)

ends_begin_all : (text : ℕ → List ℕ) → ((part : ℕ) → Begins (text part) (text (part + 1))) → (part count : ℕ) → part ≤ count → Begins (text part) (text count)
ends_begin_all text grows part count few =
    let e : part + (count - part) ≡ count = omega (arith, few) in subst (λ n. Begins (text part) (text n)) e (ends_begin text grows part (count - part))

-- a run that stopped at a line
pub lines_short : (most : ℕ) (end_count : EndCount (List ℕ)) (f : RunFault) (input read : List ℕ) (left : ℕ → Says) → StopsShort most f read (left 0) → StopsAt most end_count f input read left
lines_short most end_count f input read left h = record { lines = h.lines; part = 0; few = omega arith; place = inl refl; is_left = h.is_left }

module _ {P : Type 0} (most : ℕ) (output : Output P (List ℕ)) where
  -- a run that stopped behind all lines of the input
  stopped_behind : (f : RunFault) (input : List ℕ) (part : ℕ) (left : ℕ → Says) → IsWithinLimits most input → IsJustified most f input (lines_of input) []
      → part ≤ output.end_count (lines_of input) → IsAtEnd f input input [] → left part (lines_of input) → StopsAt most output.end_count f input input left
  stopped_behind f input part left within justified few at_end is_left = record {
    lines = all_lines most f input within justified;
    part = part;
    few = few;
    place = inr at_end;
    is_left = is_left;
  }

  -- a run that stopped in the end of the input
  pub end_short : (f : RunFault) (pages : Pages P) (before after : Option (List ℕ)) (input : List ℕ) → IsWithinLimits most input
      → StopsInEnd output f (output.end_count (lines_of input)) pages before after (lines_of input)
      → StopsAt most output.end_count f input input (λ part. StandsAfter f (Stands output part pages before after) (HasFailed output part pages before after))
  end_short fault.Read pages before after input within s = absurd s.2
  end_short fault.LineTooLong pages before after input within s = absurd s.2
  end_short fault.TooManyLines pages before after input within s = absurd s.2
  end_short fault.NoMemory pages before after input within s = stopped_behind fault.NoMemory input s.0 _ within tt s.1 (refl, refl) s.2
  end_short fault.Write pages before after input within s = stopped_behind fault.Write input s.0 _ within tt s.1 (refl, refl) s.2

  end_as : (f : RunFault) (input read : List ℕ) (next : List (List ℕ)) → IsAtEnd f input read next → IsAtEnd fault.Write input read next
  end_as fault.Read input read next h = absurd h
  end_as fault.LineTooLong input read next h = absurd h
  end_as fault.TooManyLines input read next h = absurd h
  end_as fault.NoMemory input read next h = h
  end_as fault.Write input read next h = h

  end_next : (f : RunFault) (input read : List ℕ) (next : List (List ℕ)) → IsAtEnd f input read next → next ≡ []
  end_next f input read next h = (end_as f input read next h).1

  place_as : (f : RunFault) (input read : List ℕ) (part : ℕ) (next : List (List ℕ)) → (part ≡ 0) ⊎ IsAtEnd f input read next → (part ≡ 0) ⊎ IsAtEnd fault.Write input read next
  place_as f input read part next (inl none) = inl none
  place_as f input read part next (inr h) = inr (end_as f input read next h)

  module _ (behind : (lines more : List (List ℕ)) → Begins (output.text_of lines 0) (output.text_of (lines ++ more) 0)) (grows : (lines : List (List ℕ)) (part : ℕ) → Begins (output.text_of lines part) (output.text_of lines (part + 1))) where
    -- the text of good lines, and of parts of the end, is a prefix of the text of all
    good_front : (f : RunFault) (input read : List ℕ) (good next : List (List ℕ)) (part : ℕ) → lines_of read ≡ good ++ next → part ≤ output.end_count good → (part ≡ 0) ⊎ IsAtEnd f input read next
        → Begins (output.text_of good part) (text_to_end output.text_of output.end_count (lines_of read))
    good_front f input read good next part lines few (inl none) =
        subst (λ n. Begins (output.text_of good n) (text_to_end output.text_of output.end_count (lines_of read))) (sym none)
        (subst (λ (ls : List (List ℕ)). Begins (output.text_of good 0) (text_to_end output.text_of output.end_count ls)) (sym lines)
        (begins_trans (output.text_of good 0) (output.text_of (good ++ next) 0) (text_to_end output.text_of output.end_count (good ++ next)) (behind good next)
        (ends_begin_all (output.text_of (good ++ next)) (grows (good ++ next)) 0 (output.end_count (good ++ next)) (omega arith))))
    good_front f input read good next part lines few (inr at_end) =
        let same : good ≡ lines_of read = sym (append-nil good) ∙ ap (λ ls. good ++ ls) (sym (end_next f input read next at_end)) ∙ sym lines in
        subst (λ (ls : List (List ℕ)). Begins (output.text_of good part) (text_to_end output.text_of output.end_count ls)) same (ends_begin_all (output.text_of good) (grows good) part (output.end_count good) few)

    front_behind : (before after : Option (List ℕ)) (xs ys : List ℕ) → Begins xs ys → AppendsFront before after xs → AppendsFront before after ys
    front_behind before after xs ys b front = (front.0, front.1, begins_trans _ _ _ front.2 b)

    module _ (old new : Pages P) (held mid after start left : Option (List ℕ)) (begun : Stands output 0 old held held []) where
      abbrev pub All : List ℕ → Type 0
      All input = TakesAll most output old new held mid left input

      abbrev pub Front : RunFault → List ℕ → Type 0
      Front f input = TakesSome most output f old new held mid left input

      all_unwritten : (input : List ℕ) → AppendsPart mid after (whole new.page.text) → All input → StopsIn most output.text_of output.end_count input left held after fault.Write
      all_unwritten input failed all =
          let count = output.end_count (lines_of input) in
          let said : AppendsPart held after (output.text_of (lines_of input) count) =
          part_left output count new mid after held (lines_of input) failed (all.2 held begun) in
          record {
            read = input;
            consumed = all.0;
            front = part_front held after _ said;
            stops = stopped_behind fault.Write input count _ all.1 tt (omega arith) (refl, refl) said;
          }

      -- the lines were taken up to a fault, and the run stops with that fault or with another
      stopped_on_pages : (e f : RunFault) (input : List ℕ) (some : Front e input) → let h = some.2 held begun in
          IsJustified most f some.0 h.lines.good h.lines.next → (h.part ≡ 0) ⊎ IsAtEnd f input some.0 h.lines.next
          → HasWritten f held after (output.text_of h.lines.good h.part) → StopsIn most output.text_of output.end_count input left held after f
      stopped_on_pages e f input some justified place said =
          let h = some.2 held begun in
          let at = h.lines in
          record {
            read = some.0;
            consumed = some.1;
            front = front_behind held after _ _ (good_front e input some.0 at.good at.next h.part at.joined h.few h.place) (written_front f held after _ said);
            stops = record {
              lines = record { good = at.good; next = at.next; joined = at.joined; within = at.within; justified = justified };
              part = h.part;
              few = h.few;
              place = place;
              is_left = said;
            };
          }

      some_unwritten : (e : RunFault) (input : List ℕ) → AppendsPart mid after (whole new.page.text) → Front e input → StopsIn most output.text_of output.end_count input left held after fault.Write
      some_unwritten e input failed some =
          let h = some.2 held begun in
          let said : AppendsPart held after (output.text_of h.lines.good h.part) =
          left_part output h.part new mid after e held h.lines.good h.is_left failed in
          stopped_on_pages e fault.Write input some tt (place_as e input some.0 h.part h.lines.next h.place) said

      pub unflushed_all : (r : Result Unit RunFault) (f : RunFault) → (f ≡ fault.Write) × AppendsPart mid after (whole new.page.text)
          → OnOk r (IfSome start All) → IfErr r (λ e. IfSome start (Front e)) → IfSome start (λ input. StopsIn most output.text_of output.end_count input left held after f)
      unflushed_all (Ok x) f failed all some = rw failed.0 (IfSome_then start all (λ input h. all_unwritten input failed.1 h))
      unflushed_all (Err e) f failed all some = rw failed.0 (IfSome_then start some (λ input h. some_unwritten e input failed.1 h))

      pub flushed_some : (f : RunFault) → IfSome start (Front f) → Appends mid after (whole new.page.text) → IfSome start (λ input. StopsIn most output.text_of output.end_count input left held after f)
      flushed_some f some written = IfSome_then start some (λ input t.
          let h = t.2 held begun in
          let said : HasWritten f held after (output.text_of h.lines.good h.part) =
          left_whole output h.part new mid after f held h.lines.good h.is_left written in
          stopped_on_pages f f input t h.lines.justified h.place said)

      pub flushed_all : (page : Page) → page.is_refused ≡ new.page.is_refused → IfSome start All → Appends mid after (whole new.page.text)
          → Prints (lines_printout most output.text_of output.has_refused output.end_count) (Ok page.is_refused) start left held after
      flushed_all page same all written = IfSome_then start all (λ input h.
          let count = output.end_count (lines_of input) in
          let said = h.2 held begun in
          record { text = all_left output count new mid after held (lines_of input) written said; refused = same ∙ said.refused; good = h.1 })
