-- Hex digits.
use Rattle.std.proofs.Common.{◌≡◌, ◌∙◌, ◌⊎◌, inl, inr, ap, sym, refl, subst, arith, ℕ, ◌==◌, Bool, true, false, cond, List, [], ◌∷◌, length, get_or, Option, Some, None, option_map}
use Rattle.std.specs.Int.{from_be_bytes, w16}
use Rattle.std.specs.Prelude.{Result, Ok, Err, MatchResult}
use Rattle.hex.specs.declared.error.FromHexError.{FromHexError}
use Rattle.hex.specs.declared.error.FromHexError.TheVariants.{OutOfMemory}
use Rattle.std.specs.Borrow.{Bor}
use Rattle.xns_script.specs.Word.{all_hex_words, bytes_if_any, is_dash, put_byte, raw_words_of, word_in, words_after, words_of_line}

-- two bytes make a word
pub two_bytes : (bytes : List ℕ) → length bytes ≡ 2 → Some (from_be_bytes w16 (get_or bytes 0 0 ∷ get_or bytes 1 0 ∷ [])) ≡ word_in (Ok bytes)
two_bytes [] e = absurd (omega arith)
two_bytes (a ∷ []) e = absurd (omega arith)
two_bytes (a ∷ b ∷ []) e = refl
two_bytes (a ∷ b ∷ c ∷ bytes) e = absurd (omega arith)

pub no_bytes : (bytes : List ℕ) → length bytes ≡ 0 → None ≡ bytes_if_any (Ok bytes)
no_bytes [] e = refl
no_bytes (b ∷ bytes) e = absurd (omega arith)

pub some_bytes : (bytes : List ℕ) → (length bytes ≡ 0 → ⊥) → Some bytes ≡ bytes_if_any (Ok bytes)
some_bytes [] e = absurd (e refl)
some_bytes (b ∷ bytes) e = refl

-- ---- what was decoded

abbrev Wrote : Result (List ℕ) FromHexError → Result (Unit {0}) FromHexError → List ℕ → Type 0
Wrote r answer out = MatchResult r (λ bytes. (answer ≡ Ok tt) × (out ≡ bytes)) (λ e. answer ≡ Err e)

pub word_ok : (r : Result (List ℕ) FromHexError) (u : Unit {0}) (out : List ℕ) → Wrote r (Ok u) out → length out ≡ 2
    → Some (from_be_bytes w16 (get_or out 0 0 ∷ get_or out 1 0 ∷ [])) ≡ word_in r
word_ok (Ok bytes) u out h two = subst (λ b. Some (from_be_bytes w16 (get_or out 0 0 ∷ get_or out 1 0 ∷ [])) ≡ word_in (Ok b)) h.1 (two_bytes out two)
word_ok (Err e) u out h two = cc

pub word_err : (r : Result (List ℕ) FromHexError) (f : FromHexError) (out : List ℕ) → Wrote r (Err f) out → None ≡ word_in r
word_err (Ok bytes) f out h = cc
word_err (Err e) f out h = refl

pub err_bytes : (r : Result (List ℕ) FromHexError) (e : FromHexError) → (e ≡ OutOfMemory) ⊎ (r ≡ Err e) → (e ≡ OutOfMemory → ⊥) → None ≡ bytes_if_any r
err_bytes r e (inl memory) never = absurd (never memory)
err_bytes r e (inr h) never = rw h refl

-- ---- words of a raw call

-- the first word and what follows it
abbrev AreWords : List (List ℕ) → Type 0
AreWords words = (word : List ℕ) × (more : List (List ℕ)) × (words ≡ word ∷ more)

some_put : (q : Bool) (byte : ℕ) (words : List (List ℕ)) → AreWords words → AreWords (cond q ([] ∷ words) (put_byte byte words))
some_put true byte words h = ([], words, refl)
some_put false byte words h = (byte ∷ h.0, h.1, ap (put_byte byte) h.2)

-- a line has a word
pub some_word : (line : List ℕ) → AreWords (words_of_line line)
unfolding words_of_line
some_word [] = ([], [], refl)
some_word (x ∷ line) = some_put (x == 32) x (words_of_line line) (some_word line)

two_are_not : (word : List ℕ) (words : List (List ℕ)) → AreWords words → is_dash (word ∷ words) ≡ false
two_are_not word words h = rw h.2 refl

-- two words are no dash
pub longer : (words : List (List ℕ)) (word : List ℕ) (more : Option (Bor (List ℕ))) → words ≡ word ∷ words_after (option_map (λ rest. rest.now) more) → (more ≡ None → ⊥) → false ≡ is_dash words
longer words word None e never = absurd (never refl)
longer words word (Some rest) e never = rw e (sym (two_are_not word (words_of_line rest.now) (some_word rest.now)))

raw_with : (words : List (List ℕ)) → AreWords words → raw_words_of words ≡ cond (is_dash words) (Some []) (all_hex_words words)
raw_with words h = rw h.2 refl

pub dash : (line : List ℕ) → true ≡ is_dash (words_of_line line) → Some [] ≡ raw_words_of (words_of_line line)
dash line e = sym (raw_with (words_of_line line) (some_word line) ∙ ap (λ b. cond b (Some []) (all_hex_words (words_of_line line))) (sym e))

pub no_dash : (line : List ℕ) → false ≡ is_dash (words_of_line line) → raw_words_of (words_of_line line) ≡ all_hex_words (words_of_line line)
no_dash line e = raw_with (words_of_line line) (some_word line) ∙ ap (λ b. cond b (Some []) (all_hex_words (words_of_line line))) (sym e)
