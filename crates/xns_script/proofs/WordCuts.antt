-- The words of a line.
use Rattle.std.proofs.Common.{◌≡◌, ◌∙◌, ap, refl, arith, ℕ, zero, suc, ◌<◌, ◌==◌, Bool, true, false, cond, List, [], ◌∷◌, length, take, drop, get_or}
use Rattle.std.proofs.lemmas.Bool.Decides.{nat_tests}
use Rattle.xns_script.specs.Word.{put_byte, words_of_line}

is_space : (byte : ℕ) → byte ≡ 32 → (byte == 32) ≡ true
is_space byte e = grind (arith, nat_tests)

no_space : (byte : ℕ) → (byte ≡ 32 → ⊥) → (byte == 32) ≡ false
no_space byte e = grind (arith, nat_tests)

abbrev put_with : Bool → ℕ → List (List ℕ) → List (List ℕ)
put_with q byte words = cond q ([] ∷ words) (put_byte byte words)

-- a line without a space is one word
pub whole_word : (line : List ℕ) → ((k : ℕ) → k < length line → get_or line k 0 ≡ 32 → ⊥) → words_of_line line ≡ line ∷ []
unfolding words_of_line
whole_word [] none = refl
whole_word (x ∷ line) none =
    ap (λ q. put_with q x (words_of_line line)) (no_space x (none 0 (omega arith)))
    ∙ ap (put_byte x) (whole_word line (λ k lt e. none (suc k) (omega arith) e))

-- the first space ends the first word
pub word_cut : (line : List ℕ) (n : ℕ) → n < length line → get_or line n 0 ≡ 32 → ((k : ℕ) → k < n → get_or line k 0 ≡ 32 → ⊥)
    → words_of_line line ≡ take n line ∷ words_of_line (drop (suc n) line)
unfolding words_of_line
word_cut [] n lt space none = absurd (omega arith)
word_cut (x ∷ line) zero lt space none = ap (λ q. put_with q x (words_of_line line)) (is_space x space)
word_cut (x ∷ line) (suc n) lt space none =
    ap (λ q. put_with q x (words_of_line line)) (no_space x (none 0 (omega arith)))
    ∙ ap (put_byte x) (word_cut line n (omega arith) space (λ k less e. none (suc k) (omega arith) e))
