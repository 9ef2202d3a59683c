-- Words in hex: their digits, spread.
use Rattle.std.proofs.Common.{◌≡◌, ◌∙◌, ap, sym, ℕ, zero, suc, ◌+◌, ◌-◌, ◌*◌, ◌/◌, ◌≤◌, ◌<◌, List, [], ◌∷◌, ◌++◌, length, get_or, slice_set, take, drop, refl, arith}
use Rattle.std.proofs.lemmas.List.{append_assoc, append-nil, drop-drop, length-append, length-drop, length-set, length-take-le, take-append-le, take-take, take_all, take_more_set, take_rest, drop_all, drop_more}
use Rattle.std.proofs.Math.Seq.{take-append-add, take-append_seam}
use Rattle.std.proofs.lemmas.Slice.{take-put_mid}
use borrow.Rule.Slice.PartMut.{post_of, put_mid}
use Rattle.hex.specs.Hex.{encode_lower, encode_with}
use Rattle.xns_lines.specs.Text.{hex_word, spaced, words_behind_spaces, words_in_hex}

-- a word or less has nothing behind it
words_in_hex_last : (bytes : List ℕ) → length bytes ≤ 2 → words_in_hex bytes ≡ encode_lower bytes
words_in_hex_last [] h = refl
words_in_hex_last (a ∷ []) h = refl
words_in_hex_last (a ∷ b ∷ []) h = refl
words_in_hex_last (a ∷ b ∷ c ∷ bytes) h = absurd (omega (arith, h))

-- words that have a byte behind them are spread
words_in_hex_front : (words : ℕ) (bytes : List ℕ) → 2 * words ≤ length bytes - 1
    → words_in_hex bytes ≡ spaced (encode_lower (take (2 * words) bytes)) ++ words_in_hex (drop (2 * words) bytes)
unfolding encode_with
words_in_hex_front zero bytes le = refl
words_in_hex_front (suc k) [] le = absurd (omega (arith, le))
words_in_hex_front (suc k) (a ∷ []) le = absurd (omega (arith, le))
words_in_hex_front (suc k) (a ∷ b ∷ []) le = absurd (omega (arith, le))
words_in_hex_front (suc k) (a ∷ b ∷ c ∷ bytes) le =
    let two : 2 * suc k ≡ suc (suc (2 * k)) = omega arith in
    let rest = words_in_hex_front k (c ∷ bytes) (omega (arith, le)) in
    rw (two, rest) refl

-- all words but the last are spread, and the last comes behind them
pub words_appended : (before between after bytes : List ℕ) (words : ℕ) → words ≡ (length bytes - 1) / 2
    → between ≡ before ++ spaced (encode_lower (take (2 * words) bytes))
    → after ≡ between ++ encode_lower (take (length bytes - 2 * words) (drop (2 * words) bytes))
    → after ≡ before ++ words_in_hex bytes
words_appended before between after bytes words count first last =
    let left : List ℕ = drop (2 * words) bytes in
    let few : length left ≤ 2 = omega (arith, count, length-drop (2 * words) bytes) in
    let same : take (length bytes - 2 * words) left ≡ left = take_rest bytes (2 * words) in
    let front = words_in_hex_front words bytes (omega (arith, count)) in
    rw (last, first, append_assoc, same, front, words_in_hex_last left few) refl

-- four digits and a space come first
spaced_four : (digits : List ℕ) → 4 ≤ length digits → spaced digits ≡ take 4 digits ++ 32 ∷ spaced (drop 4 digits)
spaced_four [] h = absurd (omega (arith, h))
spaced_four (a ∷ []) h = absurd (omega (arith, h))
spaced_four (a ∷ b ∷ []) h = absurd (omega (arith, h))
spaced_four (a ∷ b ∷ c ∷ []) h = absurd (omega (arith, h))
spaced_four (a ∷ b ∷ c ∷ d ∷ digits) h = refl

spaced_few : (digits : List ℕ) → length digits < 4 → spaced digits ≡ []
spaced_few [] h = refl
spaced_few (a ∷ []) h = refl
spaced_few (a ∷ b ∷ []) h = refl
spaced_few (a ∷ b ∷ c ∷ []) h = refl
spaced_few (a ∷ b ∷ c ∷ d ∷ digits) h = absurd (omega (arith, h))

-- four digits more are spread
pub spread_step : (digits text four : List ℕ) (i j k : ℕ) → 4 * i + 4 ≤ length digits → 5 * i + 5 ≤ length text → j ≡ 4 → k ≡ 4
    → four ≡ take j (drop (4 * i) digits)
    → take (5 * i) text ++ spaced (drop (4 * i) digits) ≡ spaced digits
    → take (5 * (i + 1)) (slice_set (put_mid (5 * i) k text four) (5 * i + 4) 32) ++ spaced (drop (4 * (i + 1)) digits) ≡ spaced digits
spread_step digits text four i j k in_digits in_text ej ek e so_far =
    let left : List ℕ = drop (4 * i) digits in
    let enough : 4 ≤ length left = omega (arith, length-drop (4 * i) digits) in
    let e4 : four ≡ take 4 left = rw ej at e in
    let len : length four ≡ 4 = rw e4 (length-take-le 4 left enough) in
    let held : List ℕ = put_mid (5 * i) k text four in
    let front : take (5 * i + 4) held ≡ take (5 * i) text ++ four = take-put_mid (5 * i) k text four (5 * i + 4) (omega (arith, len)) (omega arith) in
    let room : length held ≡ length text = omega (arith, len, length-append (take (5 * i) text) (four ++ post_of (5 * i) k text), length-append four (post_of (5 * i) k text), length-take-le (5 * i) text (omega arith), length-drop k (drop (5 * i) text), length-drop (5 * i) text) in
    let space : take (5 * i + 4 + 1) (slice_set held (5 * i + 4) 32) ≡ take (5 * i + 4) held ++ 32 ∷ [] = take_more_set held (5 * i + 4) 32 (omega (arith, room)) in
    let next : 5 * (i + 1) ≡ 5 * i + 4 + 1 = omega arith in
    let after : drop (4 * (i + 1)) digits ≡ drop 4 left = ap (λ (n : ℕ). drop n digits) (omega arith) ∙ sym (drop-drop 4 (4 * i) digits) in
    rw (next, space, front, after, append_assoc, append_assoc, e4, ← spaced_four left enough) so_far

-- all digits are spread
pub spread_done : (digits text : List ℕ) (i : ℕ) → length digits / 4 ≤ i → 4 * length text ≡ 5 * length digits
    → take (5 * i) text ++ spaced (drop (4 * i) digits) ≡ spaced digits
    → text ≡ spaced digits
spread_done digits text i h len so_far =
    let few = spaced_few (drop (4 * i) digits) (omega (arith, length-drop (4 * i) digits)) in
    let all = take_all (5 * i) text (omega arith) in
    rw (few, all, append-nil) at so_far

-- a word more is written behind a space
pub word_written : (words text digits : List ℕ) (i j k : ℕ) → i < length words → length text ≡ 5 * length words → j ≡ 5 * i + 1 → length digits ≡ 4
    → digits ≡ hex_word (get_or words i 0)
    → take (5 * i) text ++ words_behind_spaces (drop i words) ≡ words_behind_spaces words
    → take (5 * (i + 1)) (put_mid j k (slice_set text (5 * i) 32) digits) ++ words_behind_spaces (drop (i + 1) words) ≡ words_behind_spaces words
word_written words text digits i j k h room ej four e so_far =
    let held : List ℕ = slice_set text (5 * i) 32 in
    let size : length held ≡ length text = length-set text (5 * i) 32 in
    let front : take (5 * (i + 1)) (put_mid j k held digits) ≡ take j held ++ digits = take-put_mid j k held digits (5 * (i + 1)) (omega (arith, ej, four)) (omega (arith, ej, size, room)) in
    let space : take j held ≡ take (5 * i) text ++ 32 ∷ [] = ap (λ (n : ℕ). take n held) ej ∙ take_more_set text (5 * i) 32 (omega (arith, room)) in
    let next = drop_more words i 0 h in
    rw (front, space, append_assoc, append_assoc, e) (rw next at so_far)

-- all words are written
pub words_written : (words text : List ℕ) (i : ℕ) → length words ≤ i → length text ≡ 5 * length words
    → take (5 * i) text ++ words_behind_spaces (drop i words) ≡ words_behind_spaces words
    → text ≡ words_behind_spaces words
words_written words text i h room so_far =
    let none : drop i words ≡ [] = drop_all i words h in
    let all = take_all (5 * i) text (omega (arith, room)) in
    rw (none, all, append-nil) at so_far

-- what stays of a list that grew by some room, when the room is cut
pub room_cut : (before now after extra room post more : List ℕ) (start end held size : ℕ) → start ≡ length before → start ≤ end → now ≡ take end before ++ extra
    → size ≤ length room → start + size ≤ held
    → after ≡ take (start + size) (take held ((take start now ++ (room ++ post)) ++ more))
    → after ≡ before ++ take size room
room_cut before now after extra room post more start end held size es le grown fits in_held cut =
    let whole : take end before ≡ before = take_all end before (omega (arith, es, le)) in
    let front : take start now ≡ before = rw (grown, whole, es) (take-append_seam before extra) in
    cut ∙ take-take (start + size) held ((take start now ++ (room ++ post)) ++ more) in_held
    ∙ ap (λ l. take (start + size) ((l ++ (room ++ post)) ++ more)) front
    ∙ ap (λ l. take (start + size) l) (append_assoc before (room ++ post) more ∙ ap (λ l. before ++ l) (append_assoc room post more))
    ∙ ap (λ (n : ℕ). take (n + size) (before ++ (room ++ (post ++ more)))) es
    ∙ take-append-add before (room ++ (post ++ more)) size
    ∙ ap (λ l. before ++ l) (take-append-le size room (post ++ more) fits)
