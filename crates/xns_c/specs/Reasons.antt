-- What is wrong with a text in Courier's notation, and what a node of a table stands for, by number.
use Rattle.std.specs.Prelude.{ℕ}
use Rattle.courier_types.specs.declared.predefined.Predefined.TheVariants as predefined
use Rattle.courier_notation.specs.declared.reason.Reason.{Reason}
use Rattle.courier_notation.specs.declared.reason.Reason.TheVariants as reasons
use Rattle.courier_programs.specs.declared.name_reason.NameReason.{NameReason}
use Rattle.courier_programs.specs.declared.name_reason.NameReason.TheVariants as names
use Rattle.courier_programs.specs.declared.program_refusal.ProgramReason.{ProgramReason}
use Rattle.courier_programs.specs.declared.program_refusal.ProgramReason.TheVariants as wrong
use Rattle.program_tables.specs.declared.node.NodeKind.{NodeKind}
use Rattle.program_tables.specs.declared.node.NodeKind.TheVariants as kinds

-- what is wrong with tokens, or how they follow one another
abbrev pub notation_number : Reason → ℕ
notation_number reasons.TooLong = 1
notation_number reasons.BadByte = 2
notation_number reasons.HugeNumber = 3
notation_number reasons.LongName = 4
notation_number reasons.OpenString = 5
notation_number reasons.TooManyTokens = 6
notation_number reasons.NoType = 11
notation_number reasons.NoConstant = 12
notation_number reasons.NoProgram = 13
notation_number reasons.NoVersion = 14
notation_number reasons.NoBegin = 15
notation_number reasons.NoEnd = 16
notation_number reasons.NoUpon = 17
notation_number reasons.NoEqual = 18
notation_number reasons.NoSemicolon = 19
notation_number reasons.NoDot = 20
notation_number reasons.NoName = 21
notation_number reasons.NoNumber = 22
notation_number reasons.LargeNumber = 23
notation_number reasons.NoOf = 24
notation_number reasons.NoArrow = 25
notation_number reasons.NoColon = 26
notation_number reasons.NoOpenBrace = 27
notation_number reasons.NoCloseBrace = 28
notation_number reasons.NoOpenBracket = 29
notation_number reasons.NoCloseBracket = 30
notation_number reasons.NoOpenParenthesis = 31
notation_number reasons.NoCloseParenthesis = 32
notation_number reasons.TooDeep = 33
notation_number reasons.TooManyParts = 34
notation_number reasons.TooManyDeclarations = 35
notation_number reasons.Trailing = 36

-- what is wrong with a name
abbrev pub name_number : NameReason → ℕ
name_number names.DoubledName = 41
name_number names.DoubledWord = 42
name_number names.DoubledNumber = 43
name_number names.DoubledProgram = 44
name_number names.UnknownName = 45
name_number names.UnknownProgram = 46
name_number names.NotRead = 47
name_number names.NotNumber = 48
name_number names.NotEnumeration = 49
name_number names.OtherNumber = 50
name_number names.NoDesignator = 51
name_number names.Recursive = 52
name_number names.TooDeep = 53
name_number names.NoWords = 54
name_number names.TooLarge = 55

abbrev pub program_reason_number : ProgramReason → ℕ
program_reason_number (wrong.Notation reason) = notation_number reason
program_reason_number (wrong.Name reason) = name_number reason

-- what a node stands for
abbrev pub kind_number : NodeKind → ℕ
kind_number (kinds.Predefined predefined.Boolean) = 1
kind_number (kinds.Predefined predefined.Cardinal) = 2
kind_number (kinds.Predefined predefined.LongCardinal) = 3
kind_number (kinds.Predefined predefined.Integer) = 4
kind_number (kinds.Predefined predefined.LongInteger) = 5
kind_number (kinds.Predefined predefined.Unspecified) = 6
kind_number (kinds.Predefined predefined.Text) = 7
kind_number kinds.Enumeration = 8
kind_number kinds.Member = 9
kind_number kinds.Array = 10
kind_number kinds.Sequence = 11
kind_number kinds.Record = 12
kind_number kinds.Choice = 13
kind_number kinds.Candidate = 14
kind_number kinds.Constant = 15
kind_number kinds.Procedure = 16
kind_number kinds.Error = 17
