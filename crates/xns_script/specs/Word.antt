-- The words of a line, and what they are as numbers and bytes.
use Rattle.std.specs.Prelude.{◌≡◌, ℕ, ◌+◌, ◌*◌, ◌-◌, ◌<◌, ◌≤◌, ◌==◌, Bool, false, if◌then◌else◌, nat_le, length, slice_index, List, [], ◌∷◌}
use Rattle.std.specs.Prelude.{codes, Option, Some, None, Result, Ok}
use Rattle.std.specs.Fmt.{decimal}
use Rattle.std.specs.Int.{IsInRange, from_be_bytes, w16}
use Rattle.std.specs.Str.{bytes_eq}
use Rattle.hex.specs.Hex.{decode_of, decode_sized}
use Rattle.hex.specs.declared.error.FromHexError.{FromHexError}
use Rattle.item_world.specs.declared.side.Side.{Side}
use Rattle.item_world.specs.declared.side.Side.TheVariants.{A, B}

-- ---- words

-- a byte that is no space goes to the first word
abbrev pub put_byte : ℕ → List (List ℕ) → List (List ℕ)
put_byte byte [] = (byte ∷ []) ∷ []
put_byte byte (word ∷ words) = (byte ∷ word) ∷ words

-- the words of a line, which a space parts; between two spaces is a word of no bytes
unfoldable pub words_of_line : List ℕ → List (List ℕ)
words_of_line [] = [] ∷ []
words_of_line (byte ∷ bytes) = if byte == 32 then [] ∷ words_of_line bytes else put_byte byte (words_of_line bytes)

-- the words of what follows a word, if anything does
abbrev pub words_after : Option (List ℕ) → List (List ℕ)
words_after None = []
words_after (Some rest) = words_of_line rest

-- ---- numbers

-- the number that the digits make where they stand behind the digits of n
abbrev pub digits_from : ℕ → List ℕ → ℕ
digits_from n [] = n
digits_from n (digit ∷ digits) = digits_from (10 * n + (digit - 48)) digits

-- each byte is a digit
abbrev pub AreDigits : List ℕ → Type 0
AreDigits bytes = (i : ℕ) → i < length bytes → IsInRange 48 57 (slice_index bytes i)

-- one to ten bytes, of which the first is no zero unless it is the only one
abbrev pub MayBeDecimal : List ℕ → Type 0
MayBeDecimal word = (0 < length word) × (length word ≤ 10) × (slice_index word 0 ≡ 48 → length word ≡ 1)

abbrev pub at_most : ℕ → ℕ → List ℕ → Option ℕ
at_most most n word = if nat_le n most then (if bytes_eq (decimal n) word then Some n else None) else None

-- the number whose decimal this word is, if the number is not over the most; a decimal has no leading zero but 0 itself
unfoldable pub number_of : ℕ → List ℕ → Option ℕ
number_of most word = at_most most (digits_from 0 word) word

-- ---- hex digits of either case

abbrev pub word_in : Result (List ℕ) FromHexError → Option ℕ
word_in (Ok (high ∷ low ∷ [])) = Some (from_be_bytes w16 (high ∷ low ∷ []))
word_in _ = None

-- the word that four hex digits spell, those of two bytes
unfoldable pub hex_word_of : List ℕ → Option ℕ
hex_word_of word = word_in (decode_sized word 2)

abbrev pub bytes_if_any : Result (List ℕ) FromHexError → Option (List ℕ)
bytes_if_any (Ok (byte ∷ bytes)) = Some (byte ∷ bytes)
bytes_if_any _ = None

-- the bytes that hex digits spell, at least one byte
unfoldable pub hex_bytes_of : List ℕ → Option (List ℕ)
hex_bytes_of word = bytes_if_any (decode_of word)

abbrev pub and_more : Option ℕ → Option (List ℕ) → Option (List ℕ)
and_more (Some w) (Some ws) = Some (w ∷ ws)
and_more _ _ = None

-- the words that are spelled, where each is of four hex digits
abbrev pub all_hex_words : List (List ℕ) → Option (List ℕ)
all_hex_words [] = Some []
all_hex_words (word ∷ words) = and_more (hex_word_of word) (all_hex_words words)

-- the one word is a dash
abbrev pub is_dash : List (List ℕ) → Bool
is_dash (word ∷ []) = bytes_eq word (codes "-")
is_dash _ = false

-- the words of a raw call: one or more of four hex digits, or a dash where there are none
abbrev pub raw_words_of : List (List ℕ) → Option (List ℕ)
raw_words_of [] = None
raw_words_of (word ∷ words) = if is_dash (word ∷ words) then Some [] else all_hex_words (word ∷ words)

-- ---- sides

unfoldable pub side_of : List ℕ → Option Side
side_of word = if bytes_eq word (codes "a") then Some A else if bytes_eq word (codes "b") then Some B else None
