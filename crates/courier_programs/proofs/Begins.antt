-- Texts and tokens of which something was read.
use Rattle.std.proofs.Common.{◌≡◌, ℕ, zero, suc, ◌-◌, ◌<◌, ◌≤◌, Bool, true, false, cond, List, [], ◌∷◌, length, nat_le, Result, Ok, Err, IsOk, refl, arith}
use Rattle.std.proofs.lemmas.Bool.{leb-true}
use Rattle.courier_notation.specs.declared.reason.Reason.TheVariants.{TooLong}
use Rattle.courier_notation.specs.declared.token.Token.{Token}
use Rattle.courier_notation.specs.Lexing.{HasToken, Lexing, lexed_at, lexed_from, lexeme_in, lexing_of, most_text, most_tokens, nothing_read, skipped, with_lexeme}
use Rattle.courier_notation.specs.ProgramModels.{ProgramModel}
use Rattle.courier_notation.specs.Programs.{body_at, header_at, nothing_at, program_of, program_with}
use Rattle.courier_notation.specs.Failing.{◌>>=◌}
use Rattle.courier_notation.specs.Reading.{Fault}
use Rattle.courier_notation.proofs.Failing.{first_was_right}

-- ---- texts

at_token : (more : Lexing → List ℕ → Result Lexing Fault) (bytes : List ℕ) (lexing : Lexing) → lexed_at more nothing_read bytes ≡ Ok lexing → 0 < length lexing.tokens → IsOk (lexeme_in bytes)
unfolding lexed_at
at_token more [] lexing is some =
    let none : lexing ≡ nothing_read = cc in
    let fewer : 0 < length nothing_read.tokens = rw none at some in
    absurd (omega (arith, fewer))
at_token more (b ∷ bytes) lexing is some =
    first_was_right (lexeme_in (b ∷ bytes)) (λ x. more (with_lexeme x.0 (length (b ∷ bytes)) nothing_read) x.1) lexing is

from_token : (most : ℕ) (text : List ℕ) (lexing : Lexing) → lexed_from most nothing_read text ≡ Ok lexing → 0 < length lexing.tokens → HasToken text
unfolding lexed_from
from_token zero text lexing is some = absurd (cc)
from_token (suc n) text lexing is some = at_token (lexed_from n) (skipped false text) lexing is some

within : (fits : Bool) (fault : Fault) (text : List ℕ) (lexing : Lexing) → cond fits (lexed_from most_tokens nothing_read text) (Err fault) ≡ Ok lexing → 0 < length lexing.tokens → HasToken text
within true fault text lexing is some = from_token most_tokens text lexing is some
within false fault text lexing is some = absurd (cc)

-- a text of which tokens were read begins with one
pub begins_with_token : (text : List ℕ) (lexing : Lexing) → lexing_of text ≡ Ok lexing → 0 < length lexing.tokens → HasToken text
unfolding lexing_of
begins_with_token text lexing is some = within (nat_le (length text) most_text) (length text - most_text, TooLong) text lexing is some

fits_true : (fits : Bool) (fault : Fault) (text : List ℕ) (lexing : Lexing) → cond fits (lexed_from most_tokens nothing_read text) (Err fault) ≡ Ok lexing → fits ≡ true
fits_true true fault text lexing is = refl
fits_true false fault text lexing is = absurd (cc)

-- a text of which tokens were read is not too long
pub lexed_fits : (text : List ℕ) (lexing : Lexing) → lexing_of text ≡ Ok lexing → length text ≤ most_text
unfolding lexing_of
lexed_fits text lexing is = leb-true (length text) most_text (fits_true (nat_le (length text) most_text) (length text - most_text, TooLong) text lexing is)

-- ---- programs

pub has_header : (ts : List Token) (w : ProgramModel) → program_of ts ≡ Ok w → IsOk (header_at ts)
unfolding program_of
has_header ts w is = first_was_right (header_at ts) (λ header. body_at header.1 >>= λ body. nothing_at (program_with header.0 body.0) body.1) w is

-- tokens that begin with a header are some
pub header_has_tokens : (ts : List Token) → IsOk (header_at ts) → 0 < length ts
unfolding header_at
header_has_tokens [] right = absurd (cc)
header_has_tokens (t ∷ ts) right = omega arith
