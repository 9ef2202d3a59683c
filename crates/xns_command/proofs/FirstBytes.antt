-- A file by its first bytes, and where a mode stops if nothing more than these was read.
use Rattle.std.proofs.Common.{◌≡◌, ◌∙◌, ap, sym, refl, arith, ℕ, ◌<◌, Bool, true, false, nat_lt, List, [], ◌∷◌, ◌++◌, length, append-nil, subst, Option, Some, None, Result, Ok, Err, inl}
use Rattle.std.specs.Prelude.{IfSome}
use Rattle.std.proofs.lemmas.Bool.{le-ltb}
use Rattle.std.specs.Fmt.{option_append}
use Rattle.std.specs.Io.KnownBytes.{Consumes, IsAtEnd}
use Rattle.xns_lines.proofs.AtFirst.{no_lines, stops_unread}
use Rattle.xns_lines.proofs.Writes.{appends_nothing}
use Rattle.xns_lines.specs.Lines.{most_lines, split_at_newlines}
use Rattle.xns_lines.specs.Printouts.{Prints, PrintsOf}
use Rattle.xns_lines.specs.declared.fault.RunFault.TheVariants as run
use Rattle.xns_captures.specs.Captures.{packets_of}
use Rattle.xns_captures.specs.Parts.{is_capture}
use Rattle.xns_captures.specs.declared.file_fault.FileFault.{FileFault}
use Rattle.xns_captures.specs.declared.file_fault.FileFault.TheVariants.{Run}
use Rattle.xns_command.specs.Commands.{mode_printout}
use Rattle.xns_command.specs.Files.{file_printout, printout_as}
use Rattle.xns_command.specs.declared.mode.Mode.{Mode}
use Rattle.xns_command.specs.declared.mode.Mode.TheVariants.{Calls, Dump, Sim}
use Rattle.xns_calls.specs.Naming.{Programs}
use Rattle.xns_calls.specs.declared.times.Times.{Times}

-- whether a file is a capture is told by its first four bytes, or by all where there are fewer
short_tells : (xs ys : List ℕ) → ys ≡ [] → is_capture (xs ++ ys) ≡ is_capture xs
short_tells xs ys none = ap is_capture (ap (λ t. xs ++ t) none ∙ append-nil xs)

long_tells : (a b c d : ℕ) (xs ys : List ℕ) → is_capture (a ∷ b ∷ c ∷ d ∷ xs ++ ys) ≡ is_capture (a ∷ b ∷ c ∷ d ∷ xs)
long_tells a b c d xs ys =
    let here : nat_lt (length (a ∷ b ∷ c ∷ d ∷ xs)) 4 ≡ false = le-ltb (length (a ∷ b ∷ c ∷ d ∷ xs)) 4 (omega arith) in
    let more : nat_lt (length (a ∷ b ∷ c ∷ d ∷ xs ++ ys)) 4 ≡ false = le-ltb (length (a ∷ b ∷ c ∷ d ∷ xs ++ ys)) 4 (omega arith) in
    rw (here, more) refl

pub tells : (xs ys : List ℕ) → (length xs < 4 → ys ≡ []) → is_capture (xs ++ ys) ≡ is_capture xs
tells [] ys h = short_tells [] ys (h (omega arith))
tells (a ∷ []) ys h = short_tells (a ∷ []) ys (h (omega arith))
tells (a ∷ b ∷ []) ys h = short_tells (a ∷ b ∷ []) ys (h (omega arith))
tells (a ∷ b ∷ c ∷ []) ys h = short_tells (a ∷ b ∷ c ∷ []) ys (h (omega arith))
tells (a ∷ b ∷ c ∷ d ∷ xs) ys h = long_tells a b c d xs ys

-- the first bytes and the rest are the file
pub whole_file : (old new whole : Option (List ℕ)) (first : List ℕ) (b : Bool) → whole ≡ option_append (Some first) new → Consumes old new first → (length first < 4 → IsAtEnd new) → b ≡ is_capture first
    → IfSome old (λ file. (whole ≡ Some file) × (is_capture file ≡ b))
whole_file None new whole first b e c end is = tt
whole_file (Some xs) None whole first b e c end is = absurd c
whole_file (Some xs) (Some ys) whole first b e c end is = (e ∙ ap Some (sym c), ap is_capture c ∙ tells first ys end ∙ sym is)

module _ (programs : Programs) (times : Times) (mode : Mode) (before after : Option (List ℕ)) where
  as_file : (file : List ℕ) (left left' : Option (List ℕ)) (r : Result Bool FileFault)
      → PrintsOf (printout_as programs (is_capture file) times mode) r left before after file → PrintsOf (file_printout programs times mode) r left' before after file
  as_file file left left' (Ok refused) h = record { text = h.text; refused = h.refused; good = h.good }
  as_file file left left' (Err fault) h = (left, h)

  -- what is made of the whole is made of the file
  pub prints_file : (b : Bool) (old whole left left' : Option (List ℕ)) (r : Result Bool FileFault) → IfSome old (λ file. (whole ≡ Some file) × (is_capture file ≡ b))
      → Prints (printout_as programs b times mode) r whole left before after → Prints (file_printout programs times mode) r old left' before after
  prints_file b None whole left left' r same prints = tt
  prints_file b (Some file) whole left left' r same prints =
      as_file file left left' r
      (subst (λ capture. PrintsOf (printout_as programs capture times mode) r left before after file) (sym same.1)
      (subst (λ given. Prints (printout_as programs b times mode) r given left before after) same.0 prints))

-- ---- nothing can be read behind the first bytes

module _ (programs : Programs) where
  lines_at_first : (mode : Mode) (file : List ℕ) (held : Option (List ℕ)) → (mode_printout programs mode).stops_in file (Some file) held held run.Read
  unfolding split_at_newlines
  lines_at_first Dump file held = stops_unread run.Read _ _ _ file held refl refl (appends_nothing held)
  lines_at_first Calls file held = stops_unread run.Read _ _ _ file held refl refl (appends_nothing held)
  lines_at_first Sim file held = record { read = []; consumed = refl; lines = no_lines most_lines run.Read refl; written = refl }

  at_first : (b : Bool) (times : Times) (mode : Mode) (file : List ℕ) (held : Option (List ℕ)) → (printout_as programs b times mode).stops_in file (Some file) held held (Run run.Read)
  at_first true times Dump file held = (tt, [], 0, record { rest = packets_of file; joined = refl; few = omega arith; place = inl refl }, appends_nothing held)
  at_first true times Calls file held = (tt, [], 0, record { rest = packets_of file; joined = refl; few = omega arith; place = inl refl }, appends_nothing held)
  at_first true times Sim file held = lines_at_first Sim file held
  at_first false times mode file held = lines_at_first mode file held

  pub stops_at_first : (times : Times) (mode : Mode) (old left held : Option (List ℕ)) → Prints (file_printout programs times mode) (Err (Run run.Read)) old left held held
  stops_at_first times mode None left held = tt
  stops_at_first times mode (Some file) left held = (Some file, at_first (is_capture file) times mode file held)
