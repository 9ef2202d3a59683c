-- What the definitions imply: the statements of the laws, each under the name of its law.
use Rattle.std.specs.Prelude.{◌≡◌, ◌↔◌, ℕ, ◌<◌, ◌≤◌, List, ◌++◌, length, Ok, true}
use Rattle.std.specs.List.{AllByRecursion}
use Rattle.courier_notation.specs.declared.token.Token.{Token}
use Rattle.courier_notation.specs.Written.{TypeModel}
use Rattle.courier_notation.specs.Reading.{type_at}
use Rattle.courier_notation.specs.Lexing.{LexemeModel, lexing_of, most_text, most_tokens, nothing_read}
use Rattle.courier_notation.specs.LexemeSpelling.{IsLexeme, lexemes_spelling, lexing_with}
use Rattle.courier_notation.specs.ProgramModels.{ProgramModel}
use Rattle.courier_notation.specs.Programs.{program_of}
use Rattle.courier_notation.specs.ProgramSpelling.{SpellsProgram}
use Rattle.courier_notation.specs.Spelling.{type_spelling, IsType, is_apart}

-- tokens that are read as a type are its spelling
abbrev pub ReadTypeIsWritten : Type 0
ReadTypeIsWritten = (depth : ℕ) (ts : List Token) (type : TypeModel) (rest : List Token) → type_at depth ts ≡ Ok (type, rest)
    → (ts ≡ type_spelling type ++ rest) × IsType depth type

-- the spelling of a type is read as that type, whatever follows that the type could not go on with
abbrev pub WrittenTypeIsRead : Type 0
WrittenTypeIsRead = (depth : ℕ) (type : TypeModel) (rest : List Token) → IsType depth type → is_apart rest ≡ true
    → type_at depth (type_spelling type ++ rest) ≡ Ok (type, rest)

-- what is read of tokens as a program is what they spell
abbrev pub ProgramIsReadAsItIsSpelled : Type 0
ProgramIsReadAsItIsSpelled = (ts : List Token) (p : ProgramModel) → (program_of ts ≡ Ok p) ↔ SpellsProgram p ts

-- lexemes that are written with a blank behind each are read, if they are not too many and the text is not too long
abbrev pub SpelledLexemesAreRead : Type 0
SpelledLexemesAreRead = (xs : List LexemeModel) → AllByRecursion IsLexeme xs → length xs < most_tokens → length (lexemes_spelling xs) ≤ most_text →
    lexing_of (lexemes_spelling xs) ≡ Ok (lexing_with nothing_read xs)
