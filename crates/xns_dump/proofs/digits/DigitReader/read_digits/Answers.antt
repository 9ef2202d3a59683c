use Rattle.std.proofs.Common.{◌≡◌, ◌∙◌, ap, ℕ, ◌<◌, List, length, Result, Ok, Err, inl, inr}
use Rattle.std.specs.Prelude.{IfErr}
use Rattle.hex.specs.Hex.{decode_of}
use Rattle.hex.specs.declared.error.FromHexError.{FromHexError}
use Rattle.hex.specs.declared.error.FromHexError.TheVariants.{OutOfMemory}
use Rattle.hex.proofs.HexLemmas.{decode_of-err}
use Rattle.xns_lines.specs.Lines.{most_line_bytes}
use Rattle.xns_dump.proofs.digits.DigitReader.read_digits.Goals as goal

-- digits that spell no bytes want no memory
bad_digits_want_none : (digits : List ℕ) → decode_of digits ≡ Err OutOfMemory → ⊥
bad_digits_want_none digits h =
    elim (decode_of-err digits OutOfMemory h) [
      | inl odd ↦ cc odd.1
      | inr bad ↦ cc bad.1
    ]

no_memory_wanted : (digits : List ℕ) (r : Result Unit FromHexError) → IfErr r (λ error. decode_of digits ≡ Err error)
    → IfErr r (λ error. error ≡ OutOfMemory → most_line_bytes < length digits)
no_memory_wanted digits (Ok x) h = tt
no_memory_wanted digits (Err error) h = λ same. absurd (bad_digits_want_none digits (h ∙ ap Err same))

pub returns-clause-memory : goal.returns-clause-memory
returns-clause-memory c = no_memory_wanted c.args.digits.now c.read_front.result c.read_front.ensures.err
