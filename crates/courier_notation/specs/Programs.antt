-- Reading a program from left to right (XSIS 038112, Courier). Which fault is told is this project's rule.
use Rattle.std.specs.Prelude.{◌⊎◌, ℕ, zero, suc, ◌+◌, List, [], ◌∷◌, length, Result, Ok, Err, IsOk, Bool, true, false, if◌then◌else◌}
use Rattle.courier_notation.specs.declared.declared.Constant.{Constant}
use Rattle.courier_notation.specs.declared.declared.Constant.TheVariants as constants
use Rattle.courier_notation.specs.declared.declared.Dependency.{Dependency}
use Rattle.courier_notation.specs.declared.limits.TheConstants.{MOST_DECLARATIONS}
use Rattle.courier_notation.specs.declared.reason.Reason.TheVariants as reasons
use Rattle.courier_notation.specs.declared.token.Token.{Token}
use Rattle.courier_notation.specs.declared.token.Token.TheVariants as tokens
use Rattle.courier_notation.specs.declared.limits.TheConstants.{MOST_DEPTH}
use Rattle.courier_notation.specs.declared.written.Reference.{Reference}
use Rattle.courier_notation.specs.ProgramModels.{DeclaredModel, FieldList, ProgramModel}
use Rattle.courier_notation.specs.Failing.{◌>>=◌, over}
use Rattle.courier_notation.specs.Reading.{Fault, Reader, by_name, enclosed, in_parentheses, listed, most_parts, name_at, nested, optional, reference_behind, small_or_fault, token_at, fields_at, fields_behind, type_at, Behind, Then, FieldsWant, TypeWants}

abbrev pub most_depth : ℕ
most_depth = MOST_DEPTH

-- ---- numbers

-- a number of two words
abbrev pub long_number : Reader ℕ
long_number (tokens.Number n ∷ ts) = Ok (n, ts)
long_number ts = Err (length ts, reasons.NoNumber)

-- a number of one word
unfoldable pub small_at : Reader ℕ
small_at ts = long_number ts >>= λ n. small_or_fault n.0 n.1

-- ---- constants

-- whether a constant begins there
abbrev pub begins_constant : List Token → Bool
begins_constant (tokens.Number n ∷ ts) = true
begins_constant (tokens.Quoted n ∷ ts) = true
begins_constant (tokens.Name n ∷ ts) = true
begins_constant (tokens.True ∷ ts) = true
begins_constant (tokens.False ∷ ts) = true
begins_constant (tokens.Minus ∷ ts) = true
begins_constant (tokens.OpenBracket ∷ ts) = true
begins_constant ts = false

-- the name of a constant, or a designator and the constant that it chooses
unfoldable pub chosen_behind : Reader Constant → ℕ → Reader Constant
chosen_behind one n ts = do
  name ← reference_behind n ts
  if begins_constant name.1 then over (λ c. constants.Other) (one name.1) else Ok (constants.Named name.0, name.1)

-- what is behind a constant in brackets that may be the name of a component
abbrev pub component_behind : Reader Constant → Constant → Reader Constant
component_behind one c (tokens.Colon ∷ ts) = one ts
component_behind one c ts = Ok (c, ts)

-- an element, or a component with its name
unfoldable pub element_at : Reader Constant → Reader Constant
element_at one ts = one ts >>= λ first. component_behind one first.0 first.1

-- elements or components up to a bracket, perhaps none
unfoldable pub elements_behind : Reader Constant → Reader Constant
elements_behind one (tokens.CloseBracket ∷ ts) = Ok (constants.Other, ts)
elements_behind one ts = do
  elements ← listed (element_at one) most_parts ts
  rest ← token_at tokens.CloseBracket reasons.NoCloseBracket elements.1
  Ok (constants.Other, rest)

-- a constant by its first token
unfoldable pub constant_behind : Reader Constant → Token → Reader Constant
constant_behind one (tokens.Number n) ts = Ok (constants.Number n, ts)
constant_behind one (tokens.Quoted n) ts = Ok (constants.Other, ts)
constant_behind one (tokens.Name n) ts = chosen_behind one n ts
constant_behind one tokens.True ts = Ok (constants.Other, ts)
constant_behind one tokens.False ts = Ok (constants.Other, ts)
constant_behind one tokens.Minus ts = over (λ n. constants.Other) (long_number ts)
constant_behind one tokens.OpenBracket ts = elements_behind one ts
constant_behind one _ ts = Err (length ts + 1, reasons.NoConstant)

-- a constant in which constants stand at most so deep
abbrev pub constant_at : ℕ → Reader Constant
constant_at = nested constant_behind reasons.NoConstant

-- ---- declarations

-- components in brackets, if there are brackets
abbrev pub arguments_at : Reader FieldList
arguments_at = optional tokens.OpenBracket (fields_behind (type_at most_depth))

abbrev pub results_at : Reader FieldList
results_at = optional tokens.Returns (fields_at (type_at most_depth))

abbrev pub reference_at : Reader Reference
reference_at = by_name reference_behind

-- the errors that a procedure reports
abbrev pub reports_at : Reader (List Reference)
reports_at = optional tokens.Reports (enclosed (tokens.OpenBracket, reasons.NoOpenBracket) (tokens.CloseBracket, reasons.NoCloseBracket) reference_at)

unfoldable pub procedure_behind : Reader DeclaredModel
procedure_behind ts = do
  arguments ← arguments_at ts
  results ← results_at arguments.1
  errors ← reports_at results.1
  rest ← token_at tokens.Equal reasons.NoEqual errors.1
  number ← small_at rest
  Ok (DeclaredModel.is_procedure arguments.0 results.0 errors.0 number.0, number.1)

unfoldable pub error_behind : Reader DeclaredModel
error_behind ts = do
  arguments ← arguments_at ts
  rest ← token_at tokens.Equal reasons.NoEqual arguments.1
  number ← small_at rest
  Ok (DeclaredModel.is_error arguments.0 number.0, number.1)

unfoldable pub type_declared : Reader DeclaredModel
type_declared ts = do
  rest ← token_at tokens.Equal reasons.NoEqual ts
  type ← type_at most_depth rest
  Ok (DeclaredModel.is_type type.0, type.1)

unfoldable pub constant_declared : Reader DeclaredModel
constant_declared ts = do
  type ← type_at most_depth ts
  rest ← token_at tokens.Equal reasons.NoEqual type.1
  constant ← constant_at most_depth rest
  Ok (DeclaredModel.is_constant type.0 constant.0, constant.1)

unfoldable pub declared_at : Reader DeclaredModel
declared_at (tokens.Type ∷ ts) = type_declared ts
declared_at (tokens.Procedure ∷ ts) = procedure_behind ts
declared_at (tokens.Error ∷ ts) = error_behind ts
declared_at ts = constant_declared ts

unfoldable pub declaration_at : Reader (ℕ × DeclaredModel)
declaration_at ts = do
  name ← name_at ts
  rest ← token_at tokens.Colon reasons.NoColon name.1
  declared ← declared_at rest
  behind ← token_at tokens.Semicolon reasons.NoSemicolon declared.1
  Ok ((name.0, declared.0), behind)

-- whether the declarations end there
abbrev pub is_end : List Token → Bool
is_end (tokens.End ∷ ts) = true
is_end ts = false

abbrev pub most_declarations : ℕ
most_declarations = MOST_DECLARATIONS

-- declarations up to the end, at most so many
unfoldable pub declarations_at : ℕ → Reader (List (ℕ × DeclaredModel))
declarations_at zero ts = if is_end ts then Ok ([], ts) else Err (length ts, reasons.TooManyDeclarations)
declarations_at (suc n) ts =
    if is_end ts then Ok ([], ts) else (declaration_at ts >>= λ first. over (λ others. first.0 ∷ others) (declarations_at n first.1))

-- ---- programs

unfoldable pub dependency_at : Reader Dependency
dependency_at ts = do
  name ← name_at ts
  number ← in_parentheses long_number name.1
  behind ← token_at tokens.Version reasons.NoVersion number.1
  version ← small_at behind
  Ok (record { name = name.0; number = number.0; version = version.0 }, version.1)

abbrev pub dependencies_at : Reader (List Dependency)
dependencies_at = optional tokens.Depends (enclosed (tokens.Upon, reasons.NoUpon) (tokens.Semicolon, reasons.NoSemicolon) dependency_at)

-- nothing stands behind the program
abbrev pub nothing_at : {A : Type 0} → A → List Token → Result A Fault
nothing_at x [] = Ok x
nothing_at x (t ∷ ts) = Err (suc (length ts), reasons.Trailing)

-- the program's name, its number and its version
abbrev pub Header : Type 0
Header = ℕ × ℕ × ℕ

-- what stands before the dependencies and the declarations
unfoldable pub header_at : Reader Header
header_at ts = do
  name ← name_at ts
  t1 ← token_at tokens.Colon reasons.NoColon name.1
  t2 ← token_at tokens.Program reasons.NoProgram t1
  number ← long_number t2
  t3 ← token_at tokens.Version reasons.NoVersion number.1
  version ← small_at t3
  t4 ← token_at tokens.Equal reasons.NoEqual version.1
  t5 ← token_at tokens.Begin reasons.NoBegin t4
  Ok ((name.0, number.0, version.0), t5)

unfoldable pub body_at : Reader (List Dependency × List (ℕ × DeclaredModel))
body_at ts = do
  dependencies ← dependencies_at ts
  declarations ← declarations_at most_declarations dependencies.1
  ended ← token_at tokens.End reasons.NoEnd declarations.1
  rest ← token_at tokens.Dot reasons.NoDot ended
  Ok ((dependencies.0, declarations.0), rest)

abbrev pub program_with : Header → List Dependency × List (ℕ × DeclaredModel) → ProgramModel
program_with header body =
    record { name = header.0; number = header.1; version = header.2; dependencies = body.0; declarations = body.1 }

unfoldable pub program_of : List Token → Result ProgramModel Fault
program_of ts = do
  header ← header_at ts
  body ← body_at header.1
  nothing_at (program_with header.0 body.0) body.1

-- ---- memory

abbrev pub ResultsWant : List Token → Type 0
ResultsWant (tokens.Returns ∷ ts) = FieldsWant ts
ResultsWant ts = ⊥

-- a first error is reported
abbrev pub ReportsWant : List Token → Type 0
ReportsWant (tokens.Reports ∷ ts) = Then (token_at tokens.OpenBracket reasons.NoOpenBracket ts) (λ inside. IsOk (reference_at inside))
ReportsWant ts = ⊥

-- the arguments of a procedure want memory, or behind them its results, or behind those what it reports
abbrev pub ProcedureWants : List Token → Type 0
ProcedureWants ts = FieldsWant ts ⊎ Behind (arguments_at ts) (λ rest. ResultsWant rest ⊎ Behind (results_at rest) ReportsWant)

-- what is declared wants memory; of a constant its type does
abbrev pub DeclaredWants : List Token → Type 0
DeclaredWants (tokens.Type ∷ ts) = Then (token_at tokens.Equal reasons.NoEqual ts) (TypeWants most_depth)
DeclaredWants (tokens.Procedure ∷ ts) = ProcedureWants ts
DeclaredWants (tokens.Error ∷ ts) = FieldsWant ts
DeclaredWants ts = TypeWants most_depth ts

abbrev pub DeclarationWants : List Token → Type 0
DeclarationWants ts = Behind (name_at ts) (λ rest. Then (token_at tokens.Colon reasons.NoColon rest) DeclaredWants)

-- a first declaration is read, or wants memory
abbrev pub DeclarationsWant : List Token → Type 0
DeclarationsWant ts = DeclarationWants ts ⊎ IsOk (declaration_at ts)

-- a first dependency is read
abbrev pub DependenciesWant : List Token → Type 0
DependenciesWant (tokens.Depends ∷ ts) = Then (token_at tokens.Upon reasons.NoUpon ts) (λ rest. IsOk (dependency_at rest))
DependenciesWant ts = ⊥

abbrev pub BodyWants : List Token → Type 0
BodyWants ts = DependenciesWant ts ⊎ Behind (dependencies_at ts) DeclarationsWant
