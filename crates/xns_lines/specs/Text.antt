-- The texts of words and of bytes.
use Rattle.std.specs.Prelude.{ℕ, List, [], ◌∷◌, ◌++◌, codes}
use Rattle.std.specs.List.{flat_map}
use Rattle.std.specs.Int.{w16, to_be_bytes}
use Rattle.hex.specs.Hex.{encode_lower}

-- a word as four hex digits
abbrev pub hex_word : ℕ → List ℕ
hex_word number = encode_lower (to_be_bytes w16 number)

-- bytes in hex, and a dash where there are none
abbrev pub bytes_or_dash : List ℕ → List ℕ
bytes_or_dash [] = codes "-"
bytes_or_dash (byte ∷ bytes) = encode_lower (byte ∷ bytes)

-- digits by fours, with a space behind each four
abbrev pub spaced : List ℕ → List ℕ
spaced (a ∷ b ∷ c ∷ d ∷ digits) = a ∷ b ∷ c ∷ d ∷ codes " " ++ spaced digits
spaced few = []

-- bytes as words of four hex digits with one space between; an odd last byte has two digits
abbrev pub words_in_hex : List ℕ → List ℕ
words_in_hex (high ∷ low ∷ next ∷ bytes) = encode_lower (high ∷ low ∷ []) ++ codes " " ++ words_in_hex (next ∷ bytes)
words_in_hex last = encode_lower last

-- bytes as words, and a dash where there are none
abbrev pub words_or_dash : List ℕ → List ℕ
words_or_dash [] = codes "-"
words_or_dash (byte ∷ bytes) = words_in_hex (byte ∷ bytes)

-- words, each behind a space
abbrev pub words_behind_spaces : List ℕ → List ℕ
words_behind_spaces words = flat_map (λ word. codes " " ++ hex_word word) words

-- words with one space between, and a dash where there are none
abbrev pub words_text : List ℕ → List ℕ
words_text [] = codes "-"
words_text (word ∷ words) = hex_word word ++ words_behind_spaces words
