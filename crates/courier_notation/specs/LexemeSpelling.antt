-- How tokens are written, byte by byte (XSIS 038112, Courier).
use Rattle.std.specs.Prelude.{◌≡◌, ℕ, ◌<◌, ◌≤◌, List, [], ◌∷◌, ◌++◌, length, None, true}
use Rattle.std.specs.List.{list_all}
use Rattle.courier_notation.specs.declared.token.Token.{Token}
use Rattle.courier_notation.specs.declared.token.Token.TheVariants as tokens
use Rattle.courier_notation.specs.Lexing.{LexemeModel, Lexing, is_letter, is_name_byte, is_no_quote, keyword_of, most_name, token_spelling, with_lexeme}

abbrev pub lexeme_spelling : LexemeModel → List ℕ
lexeme_spelling (LexemeModel.plain token) = token_spelling token
lexeme_spelling (LexemeModel.name word) = word
lexeme_spelling (LexemeModel.quoted string) = 34 ∷ (string ++ 34 ∷ [])

-- a token that is its own lexeme, with a number of 32 bits
abbrev pub IsPlain : Token → Type 0
IsPlain (tokens.Name n) = ⊥
IsPlain (tokens.Number n) = n < 4294967296
IsPlain (tokens.Quoted n) = ⊥
IsPlain _ = Unit {0}

-- a letter, and then letters and digits; no keyword; not too long
abbrev pub IsWord : List ℕ → Type 0
IsWord [] = ⊥
IsWord (b ∷ bytes) =
    (is_letter b ≡ true) × (list_all is_name_byte (b ∷ bytes) ≡ true) × (keyword_of (b ∷ bytes) ≡ None) × (length (b ∷ bytes) ≤ most_name)

abbrev pub IsLexeme : LexemeModel → Type 0
IsLexeme (LexemeModel.plain token) = IsPlain token
IsLexeme (LexemeModel.name word) = IsWord word
IsLexeme (LexemeModel.quoted string) = list_all is_no_quote string ≡ true

-- lexemes with a blank behind each
abbrev pub lexemes_spelling : List LexemeModel → List ℕ
lexemes_spelling [] = []
lexemes_spelling (x ∷ xs) = lexeme_spelling x ++ 32 ∷ lexemes_spelling xs

-- what is read of lexemes with a blank behind each, behind what was read before
abbrev pub lexing_with : Lexing → List LexemeModel → Lexing
lexing_with lexing [] = lexing
lexing_with lexing (x ∷ xs) = lexing_with (with_lexeme x (length (lexemes_spelling (x ∷ xs))) lexing) xs
