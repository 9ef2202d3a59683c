-- A program that a text is (XSIS 038112, Courier). The places of faults are this project's rule.
use Rattle.std.specs.Prelude.{ℕ, ◌+◌, ◌-◌, ◌==◌, List, length, fold, Option, Some, None, Result, Ok, Err, Bool, false, if◌then◌else◌, slice_get}
use Rattle.std.specs.List.{position_from}
use Rattle.courier_notation.specs.declared.token.Token.{Token}
use Rattle.courier_notation.specs.declared.token.Token.TheVariants as tokens
use Rattle.courier_notation.specs.Lexing.{Lexing, lexing_of}
use Rattle.courier_notation.specs.ProgramModels.{ProgramModel}
use Rattle.courier_notation.specs.Programs.{program_of}
use Rattle.courier_notation.specs.Reading.{Fault}
use Rattle.courier_programs.specs.declared.program.Program.{Program}
use Rattle.courier_programs.specs.declared.program_refusal.ProgramReason.{ProgramReason}
use Rattle.courier_programs.specs.declared.program_refusal.ProgramReason.TheVariants as reasons
use Rattle.courier_programs.specs.Meanings.{ResolvedModel}
use Rattle.courier_programs.specs.Faults.{NameFault}
use Rattle.courier_programs.specs.Resolving.{resolved}

-- how many bytes stand in front of a fault, and what is wrong
abbrev pub TextFault : Type 0
TextFault = ℕ × ProgramReason

-- ---- places

abbrev pub place_by : List ℕ → Option ℕ → ℕ
place_by text (Some left) = length text - left
place_by text None = length text

-- the place of the token of that index; behind the last one it is the end of the text
abbrev pub token_place : List ℕ → List ℕ → ℕ → ℕ
token_place text left i = place_by text (slice_get left i)

abbrev pub is_name : ℕ → Token → Bool
is_name name (tokens.Name n) = n == name
is_name name _ = false

-- the index of the token that is the name
abbrev pub name_index : List Token → ℕ → Option ℕ
name_index ts name = position_from (is_name name) 0 ts

abbrev pub index_place : List ℕ → List ℕ → Option ℕ → ℕ
index_place text left (Some i) = token_place text left i
index_place text left None = length text

-- ---- programs

abbrev pub name_told : List ℕ → Lexing → Result ResolvedModel NameFault → Result ResolvedModel TextFault
name_told text lexing (Ok p) = Ok p
name_told text lexing (Err (name, reason)) = Err (index_place text lexing.left (name_index lexing.tokens name), reasons.Name reason)

abbrev pub written_told : List ℕ → List Program → Lexing → Result ProgramModel Fault → Result ResolvedModel TextFault
written_told text before lexing (Ok w) = name_told text lexing (resolved lexing.names before w)
written_told text before lexing (Err (left, reason)) = Err (token_place text lexing.left (length lexing.tokens - left), reasons.Notation reason)

abbrev pub lexed_told : List ℕ → List Program → Result Lexing Fault → Result ResolvedModel TextFault
lexed_told text before (Ok lexing) = written_told text before lexing (program_of lexing.tokens)
lexed_told text before (Err (left, reason)) = Err (length text - left, reasons.Notation reason)

-- the program that the text is, behind those that were read before; or its first fault: of the tokens, of the grammar, of the names
unfoldable pub text_meant : List ℕ → List Program → Result ResolvedModel TextFault
text_meant text before = lexed_told text before (lexing_of text)

-- ---- lines and columns

-- the line and the column behind a byte
abbrev pub behind_byte : ℕ × ℕ → ℕ → ℕ × ℕ
behind_byte at byte = if byte == 10 then (at.0 + 1, 1) else (at.0, at.1 + 1)

-- the line and the column behind these bytes; both count from 1, and a column is a byte
abbrev pub position_behind : List ℕ → ℕ × ℕ
position_behind bytes = fold behind_byte (1, 1) bytes
