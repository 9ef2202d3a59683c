-- How a program is written, token by token (XSIS 038112, Courier): the grammar of programs. A constant keeps only what a type can
-- depend on, and brackets around no components may be left out. So a program has more than one spelling.
use Rattle.std.specs.Prelude.{◌≡◌, ◌⊎◌, ℕ, suc, ◌<◌, ◌≤◌, List, [], ◌∷◌, ◌++◌, length}
use Rattle.std.specs.List.{AllByRecursion}
use Rattle.courier_notation.specs.declared.declared.Constant.{Constant}
use Rattle.courier_notation.specs.declared.declared.Constant.TheVariants as constants
use Rattle.courier_notation.specs.declared.declared.Dependency.{Dependency}
use Rattle.courier_notation.specs.declared.token.Token.{Token}
use Rattle.courier_notation.specs.declared.token.Token.TheVariants as tokens
use Rattle.courier_notation.specs.declared.written.Reference.{Reference}
use Rattle.courier_notation.specs.Written.{fields_from}
use Rattle.courier_notation.specs.Reading.{most_parts}
use Rattle.courier_notation.specs.Spelling.{reference_spelling, parts_spelling, type_spelling, fields_spelling, field_count, AreParts, IsType, AreFields}
use Rattle.courier_notation.specs.ProgramModels.{DeclaredModel, FieldList, ProgramModel}
use Rattle.courier_notation.specs.Programs.{most_depth, most_declarations}

-- ---- constants

-- tokens that spell a constant, with the depth to which constants may stand in it, and with what is kept of it
mutual
  pub data SpellsConstant : ℕ → Constant → List Token → Type 0 where
    number : (depth n : ℕ) → SpellsConstant (suc depth) (constants.Number n) (tokens.Number n ∷ [])
    negative : (depth n : ℕ) → SpellsConstant (suc depth) constants.Other (tokens.Minus ∷ tokens.Number n ∷ [])
    quoted : (depth n : ℕ) → SpellsConstant (suc depth) constants.Other (tokens.Quoted n ∷ [])
    is_true : (depth : ℕ) → SpellsConstant (suc depth) constants.Other (tokens.True ∷ [])
    is_false : (depth : ℕ) → SpellsConstant (suc depth) constants.Other (tokens.False ∷ [])
    named : (depth : ℕ) (name : Reference) → SpellsConstant (suc depth) (constants.Named name) (reference_spelling name)
    chosen : (depth : ℕ) (name : Reference) (c : Constant) (text : List Token) → SpellsConstant depth c text →
        SpellsConstant (suc depth) constants.Other (reference_spelling name ++ text)
    nothing : (depth : ℕ) → SpellsConstant (suc depth) constants.Other (tokens.OpenBracket ∷ tokens.CloseBracket ∷ [])
    listed : (depth count : ℕ) (text : List Token) → count ≤ most_parts → SpellsElements depth count text →
        SpellsConstant (suc depth) constants.Other (tokens.OpenBracket ∷ (text ++ tokens.CloseBracket ∷ []))

  -- an element, or a component behind its name
  pub data SpellsElement : ℕ → List Token → Type 0 where
    alone : (depth : ℕ) (c : Constant) (text : List Token) → SpellsConstant depth c text → SpellsElement depth text
    component : (depth : ℕ) (c d : Constant) (text other : List Token) → SpellsConstant depth c text → SpellsConstant depth d other →
        SpellsElement depth (text ++ tokens.Colon ∷ other)

  -- elements with commas between, with their number
  pub data SpellsElements : ℕ → ℕ → List Token → Type 0 where
    last : (depth : ℕ) (text : List Token) → SpellsElement depth text → SpellsElements depth 1 text
    more : (depth count : ℕ) (text others : List Token) → SpellsElement depth text → SpellsElements depth count others →
        SpellsElements depth (suc count) (text ++ tokens.Comma ∷ others)

-- ---- declarations

-- components in brackets
abbrev pub SpellsFields : FieldList → List Token → Type 0
SpellsFields fields text =
    (field_count (fields_from fields) ≤ most_parts) × AreFields most_depth (fields_from fields)
    × (text ≡ tokens.OpenBracket ∷ (fields_spelling (fields_from fields) ++ tokens.CloseBracket ∷ []))

-- nothing, where there is nothing to be said
abbrev pub SaysNothing : {A : Type 0} → List A → List Token → Type 0
SaysNothing {A} xs text = (xs ≡ []) × (text ≡ [])

abbrev pub SpellsArguments : FieldList → List Token → Type 0
SpellsArguments fields text = SaysNothing fields text ⊎ SpellsFields fields text

abbrev pub SpellsResults : FieldList → List Token → Type 0
SpellsResults fields text = SaysNothing fields text ⊎ ((inside : List Token) × (text ≡ tokens.Returns ∷ inside) × SpellsFields fields inside)

abbrev pub SpellsReports : List Reference → List Token → Type 0
SpellsReports errors text =
    SaysNothing errors text
    ⊎ (AreParts errors × (text ≡ tokens.Reports ∷ tokens.OpenBracket ∷ (parts_spelling reference_spelling errors ++ tokens.CloseBracket ∷ [])))

-- the number of a procedure or an error
abbrev pub numbered : ℕ → List Token
numbered n = tokens.Equal ∷ tokens.Number n ∷ []

abbrev pub SpellsDeclared : DeclaredModel → List Token → Type 0
SpellsDeclared (DeclaredModel.is_type type) text = IsType most_depth type × (text ≡ tokens.Type ∷ tokens.Equal ∷ type_spelling type)
SpellsDeclared (DeclaredModel.is_constant type c) text =
    (value : List Token) × IsType most_depth type × SpellsConstant most_depth c value × (text ≡ type_spelling type ++ tokens.Equal ∷ value)
SpellsDeclared (DeclaredModel.is_procedure arguments results errors n) text =
    (x : List Token) × (y : List Token) × (z : List Token) × SpellsArguments arguments x × SpellsResults results y × SpellsReports errors z
    × (n < 65536) × (text ≡ tokens.Procedure ∷ (x ++ (y ++ (z ++ numbered n))))
SpellsDeclared (DeclaredModel.is_error arguments n) text =
    (x : List Token) × SpellsArguments arguments x × (n < 65536) × (text ≡ tokens.Error ∷ (x ++ numbered n))

abbrev pub SpellsDeclaration : ℕ × DeclaredModel → List Token → Type 0
SpellsDeclaration d text =
    (inside : List Token) × SpellsDeclared d.1 inside × (text ≡ tokens.Name d.0 ∷ tokens.Colon ∷ (inside ++ tokens.Semicolon ∷ []))

-- declarations one after the other
abbrev pub SpellsDeclarations : List (ℕ × DeclaredModel) → List Token → Type 0
SpellsDeclarations [] text = text ≡ []
SpellsDeclarations (d ∷ ds) text =
    (a : List Token) × (b : List Token) × SpellsDeclaration d a × SpellsDeclarations ds b × (text ≡ a ++ b)

-- ---- programs

abbrev pub dependency_spelling : Dependency → List Token
dependency_spelling d =
    tokens.Name d.name ∷ tokens.OpenParenthesis ∷ tokens.Number d.number ∷ tokens.CloseParenthesis ∷ tokens.Version ∷ tokens.Number d.version ∷ []

abbrev pub IsDependency : Dependency → Type 0
IsDependency d = d.version < 65536

abbrev pub SpellsDependencies : List Dependency → List Token → Type 0
SpellsDependencies ds text =
    SaysNothing ds text
    ⊎ (AreParts ds × AllByRecursion IsDependency ds × (text ≡ tokens.Depends ∷ tokens.Upon ∷ (parts_spelling dependency_spelling ds ++ tokens.Semicolon ∷ [])))

-- the tokens, all of them, spell the program
abbrev pub SpellsProgram : ProgramModel → List Token → Type 0
SpellsProgram p text =
    (x : List Token) × (y : List Token) × SpellsDependencies p.dependencies x × SpellsDeclarations p.declarations y
    × (length p.declarations ≤ most_declarations) × (p.version < 65536)
    × (text ≡ tokens.Name p.name ∷ tokens.Colon ∷ tokens.Program ∷ tokens.Number p.number ∷ tokens.Version ∷ tokens.Number p.version
    ∷ tokens.Equal ∷ tokens.Begin ∷ (x ++ (y ++ tokens.End ∷ tokens.Dot ∷ [])))
