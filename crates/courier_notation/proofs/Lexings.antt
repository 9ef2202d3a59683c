-- A text read token by token, as the loop does.
use Rattle.std.proofs.Common.{◌≡◌, ℕ, suc, ◌-◌, ◌+◌, ◌≤◌, ◌<◌, List, [], ◌∷◌, length, false, Result, Ok, Err, refl, sym, ap, ◌∙◌, ◌⊎◌, inl, inr, arith}
use Rattle.courier_notation.specs.declared.reason.Reason.{Reason}
use Rattle.courier_notation.specs.declared.reason.Reason.TheVariants.{TooManyTokens}
use Rattle.courier_notation.specs.declared.failure.Failure.{Failure}
use Rattle.courier_notation.specs.declared.failure.Failure.TheVariants as failures
use Rattle.courier_notation.specs.Failing.{Fails}
use Rattle.courier_notation.specs.Reading.{Fault}
use Rattle.courier_notation.specs.Lexing.{HasToken, Lexing, LexemeModel, with_lexeme, lexeme_in, skipped, lexed_at, lexed_from}

-- a text that has bytes is its first byte and the others
pub text_ends : (most i : ℕ) (lexing : Lexing) (rest begun : List ℕ) (total : Result Lexing Fault) → i < most → begun ≡ skipped false rest → length begun ≡ 0 → lexed_from (most - i) lexing rest ≡ total → total ≡ Ok lexing
unfolding lexed_from lexed_at
text_ends most i lexing rest [] total lt h none so_far =
    let k : most - i ≡ suc (most - (i + 1)) = omega arith in
    let step : lexed_from (most - i) lexing rest ≡ Ok lexing = rw (k, ← h) refl in
    sym so_far ∙ step
text_ends most i lexing rest (b ∷ bytes) total lt h none so_far = absurd (omega arith)

pub token_fails : (e : Failure ℕ Reason) (most i : ℕ) (lexing : Lexing) (rest begun : List ℕ) (total : Result Lexing Fault) → i < most → begun ≡ skipped false rest → 0 < length begun → Fails e (lexeme_in begun) → lexed_from (most - i) lexing rest ≡ total → Fails e total
unfolding lexed_from lexed_at
token_fails failures.NoMemory most i lexing rest begun total lt h some f so_far = tt
token_fails (failures.Wrong place reason) most i lexing rest [] total lt h some f so_far = absurd (omega arith)
token_fails (failures.Wrong place reason) most i lexing rest (b ∷ bytes) total lt h some f so_far =
    let k : most - i ≡ suc (most - (i + 1)) = omega arith in
    let step : lexed_from (most - i) lexing rest ≡ Err (place, reason) = rw (k, ← h, f) refl in
    sym so_far ∙ step

pub token_read : (most i : ℕ) (lexing : Lexing) (rest begun : List ℕ) (lexeme : LexemeModel) (behind : List ℕ) (total : Result Lexing Fault) → i < most → begun ≡ skipped false rest → 0 < length begun → lexeme_in begun ≡ Ok (lexeme, behind)
    → lexed_from (most - i) lexing rest ≡ total → lexed_from (most - (i + 1)) (with_lexeme lexeme (length begun) lexing) behind ≡ total
unfolding lexed_from lexed_at
token_read most i lexing rest [] lexeme behind total lt h some f so_far = absurd (omega arith)
token_read most i lexing rest (b ∷ bytes) lexeme behind total lt h some f so_far =
    let k : most - i ≡ suc (most - (i + 1)) = omega arith in
    let step : lexed_from (most - i) lexing rest ≡ lexed_from (most - (i + 1)) (with_lexeme lexeme (length (b ∷ bytes)) lexing) behind = rw (k, ← h, f) refl in
    sym step ∙ so_far

pub too_many : (most i : ℕ) (lexing : Lexing) (rest : List ℕ) (total : Result Lexing Fault) → most ≤ i → lexed_from (most - i) lexing rest ≡ total → total ≡ Err (length rest, TooManyTokens)
unfolding lexed_from
too_many most i lexing rest total le so_far =
    let k : most - i ≡ 0 = omega arith in
    let step : lexed_from (most - i) lexing rest ≡ Err (length rest, TooManyTokens) = rw k refl in
    sym so_far ∙ step

-- the text begins with a token, since one is read there, or one was read before
pub token_there : (text rest begun : List ℕ) (x : LexemeModel × List ℕ) → (rest ≡ text) ⊎ HasToken text → begun ≡ skipped false rest → lexeme_in begun ≡ Ok x → HasToken text
token_there text rest begun x (inl same) h e =
    let read : lexeme_in (skipped false text) ≡ Ok x = ap (λ (t : List ℕ). lexeme_in (skipped false t)) (sym same) ∙ ap lexeme_in (sym h) ∙ e in
    rw read refl
token_there text rest begun x (inr there) h e = there
