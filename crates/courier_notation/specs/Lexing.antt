-- The tokens of a text (XSIS 038112, Courier). That a comment ends at two dashes or with its line is as in Mesa; that a name has
-- letters and digits alone, and a string no quote, are this project's.
use Rattle.std.specs.Prelude.{ℕ, zero, suc, ◌+◌, ◌*◌, ◌-◌, ◌==◌, ◌&&◌, ◌||◌, not, List, [], ◌∷◌, ◌++◌, length, map, Bool, false, Option, Some, None, Result, Ok, Err, IsOk, nat_lt, nat_le, if◌then◌else◌, codes}
use Rattle.std.specs.Fmt.{decimal}
use Rattle.std.specs.Str.{bytes_eq}
use Rattle.courier_notation.specs.declared.lexed.Lexed.{Lexed}
use Rattle.courier_notation.specs.declared.limits.TheConstants.{MOST_NAME, MOST_TEXT, MOST_TOKENS}
use Rattle.courier_notation.specs.declared.lexemes.Lexeme.{Lexeme}
use Rattle.courier_notation.specs.declared.lexemes.Lexeme.TheVariants as lexemes
use Rattle.courier_notation.specs.declared.reason.Reason.TheVariants as reasons
use Rattle.courier_notation.specs.declared.token.Token.{Token}
use Rattle.courier_notation.specs.declared.token.Token.TheVariants as tokens
use Rattle.courier_notation.specs.Failing.{◌>>=◌}
use Rattle.courier_notation.specs.Reading.{Fault}

-- ---- bytes

abbrev pub is_line_end : ℕ → Bool
is_line_end byte = byte == 10 || byte == 13

abbrev pub is_blank : ℕ → Bool
is_blank byte = byte == 32 || byte == 9 || is_line_end byte

abbrev pub is_letter : ℕ → Bool
is_letter byte = (nat_le 65 byte && nat_le byte 90) || (nat_le 97 byte && nat_le byte 122)

abbrev pub is_digit : ℕ → Bool
is_digit byte = nat_le 48 byte && nat_le byte 57

abbrev pub is_name_byte : ℕ → Bool
is_name_byte byte = is_letter byte || is_digit byte

-- ---- blanks and comments

-- what stands behind blanks and comments; a comment goes from two dashes to two dashes or to the end of its line
unfoldable pub skipped : Bool → List ℕ → List ℕ
skipped is_comment [] = []
skipped is_comment (b ∷ []) = if is_comment || is_blank b then [] else b ∷ []
skipped is_comment (b ∷ c ∷ bytes) =
    if b == 45 && c == 45 then skipped (not is_comment) bytes else if is_comment then skipped (not (is_line_end b)) (c ∷ bytes) else
    if is_blank b then skipped false (c ∷ bytes) else b ∷ c ∷ bytes

-- ---- words

-- the longest front whose bytes pass the test, and what stands behind it
abbrev pub passing_front : (ℕ → Bool) → List ℕ → List ℕ
passing_front test [] = []
passing_front test (b ∷ bytes) = if test b then b ∷ passing_front test bytes else []

abbrev pub behind_front : (ℕ → Bool) → List ℕ → List ℕ
behind_front test [] = []
behind_front test (b ∷ bytes) = if test b then behind_front test bytes else b ∷ bytes

-- the number that digits make behind a number
abbrev pub digits_number : ℕ → List ℕ → ℕ
digits_number number [] = number
digits_number number (d ∷ digits) = digits_number (10 * number + (d - 48)) digits

-- a number, if it has 32 bits
abbrev pub long_of : ℕ → Option ℕ
long_of number = if nat_lt number 4294967296 then Some number else None

-- keywords, marks and numbers; a name and a string are written otherwise
abbrev pub token_spelling : Token → List ℕ
token_spelling (tokens.Name n) = []
token_spelling (tokens.Number n) = decimal n
token_spelling (tokens.Quoted n) = []
token_spelling tokens.Array = codes "ARRAY"
token_spelling tokens.Begin = codes "BEGIN"
token_spelling tokens.Boolean = codes "BOOLEAN"
token_spelling tokens.Cardinal = codes "CARDINAL"
token_spelling tokens.Choice = codes "CHOICE"
token_spelling tokens.Depends = codes "DEPENDS"
token_spelling tokens.End = codes "END"
token_spelling tokens.Error = codes "ERROR"
token_spelling tokens.False = codes "FALSE"
token_spelling tokens.Integer = codes "INTEGER"
token_spelling tokens.Long = codes "LONG"
token_spelling tokens.Of = codes "OF"
token_spelling tokens.Procedure = codes "PROCEDURE"
token_spelling tokens.Program = codes "PROGRAM"
token_spelling tokens.Record = codes "RECORD"
token_spelling tokens.Reports = codes "REPORTS"
token_spelling tokens.Returns = codes "RETURNS"
token_spelling tokens.Sequence = codes "SEQUENCE"
token_spelling tokens.String = codes "STRING"
token_spelling tokens.True = codes "TRUE"
token_spelling tokens.Type = codes "TYPE"
token_spelling tokens.Unspecified = codes "UNSPECIFIED"
token_spelling tokens.Upon = codes "UPON"
token_spelling tokens.Version = codes "VERSION"
token_spelling tokens.Arrow = codes "=>"
token_spelling tokens.CloseBrace = codes "}"
token_spelling tokens.CloseBracket = codes "]"
token_spelling tokens.CloseParenthesis = codes ")"
token_spelling tokens.Colon = codes ":"
token_spelling tokens.Comma = codes ","
token_spelling tokens.Dot = codes "."
token_spelling tokens.Equal = codes "="
token_spelling tokens.Minus = codes "-"
token_spelling tokens.OpenBrace = codes "{"
token_spelling tokens.OpenBracket = codes "["
token_spelling tokens.OpenParenthesis = codes "("
token_spelling tokens.Semicolon = codes ";"

-- the first of these tokens that is written so
abbrev pub token_among : List Token → List ℕ → Option Token
token_among [] word = None
token_among (t ∷ ts) word = if bytes_eq word (token_spelling t) then Some t else token_among ts word

-- the token beside a word in a table
abbrev pub token_beside : {A : Type 0} → (A → List ℕ) → List (A × Token) → List ℕ → Option Token
token_beside name [] word = None
token_beside name (entry ∷ entries) word = if bytes_eq word (name entry.0) then Some entry.1 else token_beside name entries word

abbrev pub keywords : List Token
keywords =
    tokens.Array ∷ tokens.Begin ∷ tokens.Boolean ∷ tokens.Cardinal ∷ tokens.Choice ∷ tokens.Depends ∷ tokens.End ∷
    tokens.Error ∷ tokens.False ∷ tokens.Integer ∷ tokens.Long ∷ tokens.Of ∷ tokens.Procedure ∷ tokens.Program ∷
    tokens.Record ∷ tokens.Reports ∷ tokens.Returns ∷ tokens.Sequence ∷ tokens.String ∷ tokens.True ∷ tokens.Type ∷
    tokens.Unspecified ∷ tokens.Upon ∷ tokens.Version ∷ []

-- the keyword that a word is
abbrev pub keyword_of : List ℕ → Option Token
keyword_of = token_among keywords

-- the token of a mark that is one byte
abbrev pub mark_of : ℕ → Option Token
mark_of byte =
    if byte == 58 then Some tokens.Colon else if byte == 59 then Some tokens.Semicolon else if byte == 44 then Some tokens.Comma else
    if byte == 46 then Some tokens.Dot else if byte == 45 then Some tokens.Minus else if byte == 40 then Some tokens.OpenParenthesis else
    if byte == 41 then Some tokens.CloseParenthesis else if byte == 91 then Some tokens.OpenBracket else
    if byte == 93 then Some tokens.CloseBracket else if byte == 123 then Some tokens.OpenBrace else
    if byte == 125 then Some tokens.CloseBrace else None

-- ---- lexemes

-- a token of the text, where a name and a string have no number yet
pub data LexemeModel : Type 0 where
  plain : Token → LexemeModel
  name : List ℕ → LexemeModel
  quoted : List ℕ → LexemeModel

abbrev pub lexeme_view : Lexeme → LexemeModel
lexeme_view (lexemes.Plain token) = LexemeModel.plain token
lexeme_view (lexemes.Name bytes) = LexemeModel.name bytes.now
lexeme_view (lexemes.Quoted bytes) = LexemeModel.quoted bytes.now

-- a lexeme, and what stands behind it
abbrev pub LexemeRead : Type 0
LexemeRead = Result (LexemeModel × List ℕ) Fault

abbrev pub most_name : ℕ
most_name = MOST_NAME

-- a keyword, or a name that is not too long
abbrev pub keyword_or_name : Option Token → List ℕ → List ℕ → ℕ → LexemeRead
keyword_or_name (Some token) word behind whole = Ok (LexemeModel.plain token, behind)
keyword_or_name None word behind whole =
    if nat_le (length word) most_name then Ok (LexemeModel.name word, behind) else Err (whole, reasons.LongName)

abbrev pub word_lexeme : List ℕ → LexemeRead
word_lexeme bytes =
    let word = passing_front is_name_byte bytes in
    keyword_or_name (keyword_of word) word (behind_front is_name_byte bytes) (length bytes)

abbrev pub number_or_fault : Option ℕ → List ℕ → ℕ → LexemeRead
number_or_fault (Some number) behind whole = Ok (LexemeModel.plain (tokens.Number number), behind)
number_or_fault None behind whole = Err (whole, reasons.HugeNumber)

abbrev pub number_at : List ℕ → LexemeRead
number_at bytes = number_or_fault (long_of (digits_number 0 (passing_front is_digit bytes))) (behind_front is_digit bytes) (length bytes)

abbrev pub is_no_quote : ℕ → Bool
is_no_quote byte = not (byte == 34)

-- a string, behind its first quote
abbrev pub quoted_ended : List ℕ → List ℕ → ℕ → LexemeRead
quoted_ended string [] whole = Err (whole, reasons.OpenString)
quoted_ended string (quote ∷ bytes) whole = Ok (LexemeModel.quoted string, bytes)

abbrev pub quoted_at : List ℕ → LexemeRead
quoted_at bytes = quoted_ended (passing_front is_no_quote bytes) (behind_front is_no_quote bytes) (length bytes + 1)

-- an arrow, or an equals sign alone, from what stands behind the equals sign
abbrev pub equal_at : List ℕ → LexemeRead
equal_at [] = Ok (LexemeModel.plain tokens.Equal, [])
equal_at (b ∷ bytes) = if b == 62 then Ok (LexemeModel.plain tokens.Arrow, bytes) else Ok (LexemeModel.plain tokens.Equal, b ∷ bytes)

abbrev pub mark_at : Option Token → List ℕ → LexemeRead
mark_at (Some token) bytes = Ok (LexemeModel.plain token, bytes)
mark_at None bytes = Err (length bytes + 1, reasons.BadByte)

-- the first lexeme of a text that begins with no blank
unfoldable pub lexeme_at : ℕ → List ℕ → LexemeRead
lexeme_at b bytes =
    if is_letter b then word_lexeme (b ∷ bytes) else if is_digit b then number_at (b ∷ bytes) else
    if b == 34 then quoted_at bytes else if b == 61 then equal_at bytes else mark_at (mark_of b) bytes

abbrev pub lexeme_in : List ℕ → LexemeRead
lexeme_in [] = Err (0, reasons.BadByte)
lexeme_in (b ∷ bytes) = lexeme_at b bytes

-- the text begins with a token, behind blanks and comments
abbrev pub HasToken : List ℕ → Type 0
HasToken text = IsOk (lexeme_in (skipped false text))

-- ---- texts

-- what a text is, without where it lies in memory
pub record Lexing : Type 0 where
  pub tokens : List Token
  pub left : List ℕ
  pub names : List (List ℕ)
  pub strings : List (List ℕ)

abbrev pub lexing_view : Lexed → Lexing
lexing_view lexed = record {
  tokens = lexed.tokens.items;
  left = lexed.left.items;
  names = map (λ v. v.items) lexed.names.items;
  strings = map (λ v. v.items) lexed.strings.items;
}

abbrev pub nothing_read : Lexing
nothing_read = record { tokens = []; left = []; names = []; strings = [] }

-- one more token, and how many bytes were left there
abbrev pub with_token : Token → ℕ → Lexing → Lexing
with_token token left lexing = record lexing { tokens = lexing.tokens ++ token ∷ []; left = lexing.left ++ left ∷ [] }

-- one more lexeme: a name and a string get the next number
abbrev pub with_lexeme : LexemeModel → ℕ → Lexing → Lexing
with_lexeme (LexemeModel.plain token) left lexing = with_token token left lexing
with_lexeme (LexemeModel.name word) left lexing =
    record (with_token (tokens.Name (length lexing.names)) left lexing) { names = lexing.names ++ word ∷ [] }
with_lexeme (LexemeModel.quoted string) left lexing =
    record (with_token (tokens.Quoted (length lexing.strings)) left lexing) { strings = lexing.strings ++ string ∷ [] }

-- the text from a token on, or its end
unfoldable pub lexed_at : (Lexing → List ℕ → Result Lexing Fault) → Lexing → List ℕ → Result Lexing Fault
lexed_at more lexing [] = Ok lexing
lexed_at more lexing (b ∷ bytes) = lexeme_in (b ∷ bytes) >>= λ x. more (with_lexeme x.0 (length (b ∷ bytes)) lexing) x.1

-- the text from here on, behind what was read, where there may be fewer tokens than this
unfoldable pub lexed_from : ℕ → Lexing → List ℕ → Result Lexing Fault
lexed_from zero lexing bytes = Err (length bytes, reasons.TooManyTokens)
lexed_from (suc n) lexing bytes = lexed_at (lexed_from n) lexing (skipped false bytes)

abbrev pub most_tokens : ℕ
most_tokens = MOST_TOKENS

abbrev pub most_text : ℕ
most_text = MOST_TEXT

-- what is read of a whole text; one that is too long is refused behind the last byte that it may have
unfoldable pub lexing_of : List ℕ → Result Lexing Fault
lexing_of text =
    if nat_le (length text) most_text then lexed_from most_tokens nothing_read text else
    Err (length text - most_text, reasons.TooLong)
