-- A description that is longer than one may be is refused as its beginning is.
use Rattle.std.proofs.Common.{◌≡◌, ◌∙◌, ap, sym, subst, refl, arith, ℕ, ◌<◌, ◌≤◌, ◌-◌, List, [], ◌++◌, length, Bool, true, false, nat_lt, Option, Some, None, Result, Ok, Err, length-append, append-nil}
use Rattle.std.specs.Prelude.{IfSome}
use Rattle.std.specs.Io.KnownBytes.{Consumes, IsAtEnd}
use Rattle.std.proofs.lemmas.Bool.{lt-leb, ltb-false, ltb-true}
use Rattle.std.proofs.lemmas.List.{take-append-le}
use Rattle.courier_notation.specs.Lexing.{lexing_of}
use Rattle.courier_notation.specs.declared.reason.Reason.TheVariants as notation
use Rattle.courier_programs.specs.declared.program.Program.{Program}
use Rattle.courier_programs.specs.declared.program_refusal.ProgramReason.{ProgramReason}
use Rattle.courier_programs.specs.declared.program_refusal.ProgramReason.TheVariants as reasons
use Rattle.courier_programs.specs.Meanings.{ResolvedModel}
use Rattle.courier_programs.specs.Texts.{TextFault, position_behind, text_meant}
use Rattle.xns_lines.specs.declared.fault.RunFault.TheVariants as run
use Rattle.xns_command.specs.declared.description_fault.DescriptionFault.{DescriptionFault}
use Rattle.xns_command.specs.declared.description_fault.DescriptionFault.TheVariants.{Run, Wrong}
use Rattle.xns_command.specs.Descriptions.{IsDescribed}

-- a text that is too long has that fault, whatever else it has
long_refused : (text : List ℕ) (before : List Program) → 262144 < length text → text_meant text before ≡ Err (262144, reasons.Notation notation.TooLong)
unfolding text_meant lexing_of
long_refused text before long =
    let place : length text - (length text - 262144) ≡ 262144 = omega arith in
    rw (lt-leb (length text) 262144 long) (ap (λ n. Err (n, reasons.Notation notation.TooLong)) place)

abbrev place_in : Result ResolvedModel TextFault → ℕ
place_in (Ok p) = 0
place_in (Err fault) = fault.0

-- what is read of the beginning of a file that is too long is read of the file
long_read : (r : Result Program DescriptionFault) (first rest : List ℕ) (before : List Program) → 262144 < length first → IsDescribed r first before → IsDescribed r (first ++ rest) before
long_read (Ok p) first rest before long is =
    absurd (not_ok _ _ (sym is ∙ long_refused first before long))
  where
    not_ok : (m : ResolvedModel) (fault : TextFault) → Ok m ≡ Err fault → ⊥
    not_ok m fault e = (cc)
long_read (Err (Wrong line column reason)) first rest before long (place, is, at) =
    let longer : 262144 < length (first ++ rest) = omega (arith, length-append first rest) in
    let here : 262144 ≡ place = ap place_in (sym (long_refused first before long) ∙ is) in (
      place,
      long_refused (first ++ rest) before longer ∙ sym (long_refused first before long) ∙ is,
      at ∙ ap position_behind (sym (take-append-le place first rest (omega arith))),
    )
long_read (Err (Run fault)) first rest before long is = is

read_in : (b : Bool) (r : Result Program DescriptionFault) (first rest : List ℕ) (before : List Program) → b ≡ nat_lt (length first) 262145 → (length first < 262145 → rest ≡ [])
    → IsDescribed r first before → IsDescribed r (first ++ rest) before
read_in true r first rest before e end is =
    let none = end (ltb-true _ _ (sym e)) in
    subst (λ text. IsDescribed r text before) (sym (ap (λ t. first ++ t) none ∙ append-nil first)) is
read_in false r first rest before e end is =
    let over : 262145 ≤ length first = ltb-false _ _ (sym e) in
    long_read r first rest before (omega arith) is

-- what is read of the first bytes of a file, of which more stand only behind so many, is read of the file
pub of_file : (r : Result Program DescriptionFault) (old new : Option (List ℕ)) (first : List ℕ) (before : List Program) → Consumes old new first → (length first < 262145 → IsAtEnd new)
    → IsDescribed r first before → IfSome old (λ text. IsDescribed r text before)
of_file r None new first before c end is = tt
of_file r (Some xs) None first before c end is = absurd c
of_file r (Some xs) (Some ys) first before c end is =
    subst (λ text. IsDescribed r text before) (sym c) (read_in (nat_lt (length first) 262145) r first ys before refl end is)

pub unread : (old : Option (List ℕ)) (before : List Program) → IfSome old (λ text. IsDescribed (Err (Run run.Read)) text before)
unread None before = tt
unread (Some text) before = tt
