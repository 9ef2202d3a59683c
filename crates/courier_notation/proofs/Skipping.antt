-- Blanks and comments, a byte after the other.
use Rattle.std.proofs.Common.{◌≡◌, ℕ, ◌<◌, Bool, true, false, cond, ◌||◌, ◌&&◌, not, List, [], ◌∷◌, length, drop, get_or, refl, ap, ◌∙◌, arith}
use Rattle.std.specs.Prelude.{◌==◌}
use Rattle.courier_notation.specs.Lexing.{skipped, is_blank, is_line_end}

-- what is skipped of two bytes and others
step : (is_comment : Bool) (b c : ℕ) (bytes : List ℕ) → skipped is_comment (b ∷ c ∷ bytes) ≡ cond (b == 45 && c == 45) (skipped (not is_comment) bytes) (cond is_comment (skipped (not (is_line_end b)) (c ∷ bytes)) (cond (is_blank b) (skipped false (c ∷ bytes)) (b ∷ c ∷ bytes)))
unfolding skipped
step is_comment b c bytes = refl

pub dashes : (is_comment : Bool) (bytes : List ℕ) → 1 < length bytes → (get_or bytes 0 0 == 45 && get_or bytes 1 0 == 45) ≡ true → skipped is_comment bytes ≡ skipped (not is_comment) (drop 2 bytes)
dashes is_comment [] long e = absurd (omega arith)
dashes is_comment (b ∷ []) long e = absurd (omega arith)
dashes is_comment (b ∷ c ∷ bytes) long e = step is_comment b c bytes ∙ ap (λ (t : Bool). cond t (skipped (not is_comment) bytes) (cond is_comment (skipped (not (is_line_end b)) (c ∷ bytes)) (cond (is_blank b) (skipped false (c ∷ bytes)) (b ∷ c ∷ bytes)))) e

pub in_comment : (bytes : List ℕ) → 1 < length bytes → (get_or bytes 0 0 == 45 && get_or bytes 1 0 == 45) ≡ false → skipped true bytes ≡ skipped (not (is_line_end (get_or bytes 0 0))) (drop 1 bytes)
in_comment [] long e = absurd (omega arith)
in_comment (b ∷ []) long e = absurd (omega arith)
in_comment (b ∷ c ∷ bytes) long e = step true b c bytes ∙ ap (λ (t : Bool). cond t (skipped false bytes) (skipped (not (is_line_end b)) (c ∷ bytes))) e

pub blank : (bytes : List ℕ) → 1 < length bytes → (get_or bytes 0 0 == 45 && get_or bytes 1 0 == 45) ≡ false → is_blank (get_or bytes 0 0) ≡ true → skipped false bytes ≡ skipped false (drop 1 bytes)
blank [] long e f = absurd (omega arith)
blank (b ∷ []) long e f = absurd (omega arith)
blank (b ∷ c ∷ bytes) long e f =
    step false b c bytes ∙ ap (λ (t : Bool). cond t (skipped true bytes) (cond (is_blank b) (skipped false (c ∷ bytes)) (b ∷ c ∷ bytes))) e
    ∙ ap (λ (t : Bool). cond t (skipped false (c ∷ bytes)) (b ∷ c ∷ bytes)) f

pub stands : (bytes : List ℕ) → 1 < length bytes → (get_or bytes 0 0 == 45 && get_or bytes 1 0 == 45) ≡ false → is_blank (get_or bytes 0 0) ≡ false → skipped false bytes ≡ bytes
stands [] long e f = absurd (omega arith)
stands (b ∷ []) long e f = absurd (omega arith)
stands (b ∷ c ∷ bytes) long e f =
    step false b c bytes ∙ ap (λ (t : Bool). cond t (skipped true bytes) (cond (is_blank b) (skipped false (c ∷ bytes)) (b ∷ c ∷ bytes))) e
    ∙ ap (λ (t : Bool). cond t (skipped false (c ∷ bytes)) (b ∷ c ∷ bytes)) f

pub none : (is_comment : Bool) (bytes : List ℕ) → length bytes ≡ 0 → skipped is_comment bytes ≡ bytes
unfolding skipped
none is_comment [] h = refl
none is_comment (b ∷ bytes) h = absurd (omega arith)

pub last_skipped : (is_comment : Bool) (bytes : List ℕ) → length bytes ≡ 1 → (is_comment || is_blank (get_or bytes 0 0)) ≡ true → skipped is_comment bytes ≡ drop 1 bytes
unfolding skipped
last_skipped is_comment [] long e = absurd (omega arith)
last_skipped is_comment (b ∷ []) long e = ap (λ (t : Bool). cond t [] (b ∷ [])) e
last_skipped is_comment (b ∷ c ∷ bytes) long e = absurd (omega arith)

pub last_stands : (is_comment : Bool) (bytes : List ℕ) → length bytes ≡ 1 → (is_comment || is_blank (get_or bytes 0 0)) ≡ false → skipped is_comment bytes ≡ bytes
unfolding skipped
last_stands is_comment [] long e = absurd (omega arith)
last_stands is_comment (b ∷ []) long e = ap (λ (t : Bool). cond t [] (b ∷ [])) e
last_stands is_comment (b ∷ c ∷ bytes) long e = absurd (omega arith)
