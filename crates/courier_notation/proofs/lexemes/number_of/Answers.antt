use Rattle.std.proofs.Common.{◌≡◌, ◌≤◌, ◌+◌, ◌*◌, ◌-◌, Bool, cond, Option, Some, None, ℕ, drop, get_or, sym, ap, ◌∙◌, arith}
use Rattle.std.proofs.lemmas.Bool.{le-ltb}
use Rattle.std.proofs.lemmas.List.{drop_more}
use Rattle.courier_notation.specs.Lexing.{digits_number, long_of}
use Rattle.courier_notation.proofs.Fronts.{digits_grow}
use Rattle.courier_notation.proofs.lexemes.number_of.Goals as goal

too_large : (number : ℕ) → 4294967296 ≤ number → ◌≡◌ {A = Option ℕ} None (long_of number)
too_large number le = sym (ap (λ (b : Bool). cond {A = Option ℕ} b (Some number) None) (le-ltb number 4294967296 le))

pub returns-then-number-gt4294967295 : goal.returns-then-number-gt4294967295
returns-then-number-gt4294967295 c =
    let l = c.loop-digit in
    let digits = c.args.digits.now in
    let d = get_or digits l.digit-index 0 in
    let here = drop_more digits l.digit-index 0 c.loop-digit-test.true in
    let so_far : digits_number (10 * l.number + (d - 48)) (drop (l.digit-index + 1) digits) ≡ digits_number 0 digits = ap (digits_number l.number) (sym here) ∙ l.invariant.so_far in
    let grown = digits_grow (10 * l.number + (d - 48)) (drop (l.digit-index + 1) digits) in
    too_large (digits_number 0 digits) (omega (arith, so_far, grown, c.from.ensures, c.saturating_sub.ensures, c.if-number-gt4294967295.true))
