-- What a name refers to (XSIS 038112, Courier, Remote programs): to what was declared before it in the same program, or in a
-- program that this one depends upon. Which fault is told is this project's rule.
use Rattle.std.specs.Prelude.{ℕ, ◌-◌, ◌==◌, ◌&&◌, List, [], map, Option, Some, None, Result, Ok, Err, Bool, false, nat_lt, if◌then◌else◌, slice_get}
use Rattle.std.specs.Global.{Vec}
use Rattle.std.specs.List.{find}
use Rattle.std.specs.Str.{bytes_eq}
use Rattle.courier_notation.specs.Failing.{◌>>=◌}
use Rattle.courier_notation.specs.declared.declared.Dependency.{Dependency}
use Rattle.courier_notation.specs.declared.written.Numeric.{Numeric}
use Rattle.courier_notation.specs.declared.written.Numeric.TheVariants as numerics
use Rattle.courier_notation.specs.declared.written.Reference.{Reference}
use Rattle.courier_notation.specs.declared.written.Reference.TheVariants as references
use Rattle.courier_texts.specs.Named.{NamedModel}
use Rattle.courier_programs.specs.declared.name_reason.NameReason.TheVariants as reasons
use Rattle.courier_programs.specs.declared.program.Program.{Program}
use Rattle.courier_programs.specs.declared.scope.Scope.{Scope}
use Rattle.courier_programs.specs.Meanings.{MeaningModel, MeaningList, meaning_of, meanings_seen}
use Rattle.courier_programs.specs.Faults.{NameFault}

-- what a declaration may refer to
pub record Env : Type 0 where
  pub names : List (List ℕ)
  pub before : List Program
  pub dependencies : List Dependency
  pub meanings : MeaningList
  pub own : ℕ
  pub is_type : Bool

abbrev pub names_seen : List (Vec ℕ) → List (List ℕ)
names_seen names = map (λ v. v.items) names

abbrev pub env : Scope → Env
env s = record {
  names = names_seen s.names.now;
  before = s.before.now;
  dependencies = s.dependencies.now;
  meanings = meanings_seen s.meanings.now;
  own = s.own;
  is_type = s.is_type;
}

abbrev pub text_or_none : Option (List ℕ) → List ℕ
text_or_none (Some text) = text
text_or_none None = []

-- the text of the name of that number
abbrev pub name_text : List (List ℕ) → ℕ → List ℕ
name_text names name = text_or_none (slice_get names name)

-- the program that was read with that number and version
abbrev pub program_by : List Program → ℕ → ℕ → Option Program
program_by programs number version = find (λ p. (p.number == number) && (p.version == version)) programs

-- the dependency of that name
abbrev pub dependency_of : List (List ℕ) → List Dependency → ℕ → Option Dependency
dependency_of names dependencies name = find (λ d. bytes_eq (name_text names d.name) (name_text names name)) dependencies

abbrev pub read_or_unknown : ℕ → Option Program → Result Program NameFault
read_or_unknown name (Some p) = Ok p
read_or_unknown name None = Err (name, reasons.UnknownProgram)

abbrev pub depended_upon : Env → ℕ → Option Dependency → Result Program NameFault
depended_upon e name (Some d) = read_or_unknown name (program_by e.before d.number d.version)
depended_upon e name None = Err (name, reasons.UnknownProgram)

-- the program that is depended upon by that name
unfoldable pub program_named : Env → ℕ → Result Program NameFault
program_named e name = depended_upon e name (dependency_of e.names e.dependencies name)

-- what is referred to
unfoldable pub look_up : Env → Reference → Result (Option MeaningModel) NameFault
look_up e (references.Own name) = Ok (meaning_of e.meanings (name_text e.names name))
look_up e (references.Other program name) = do
  found ← program_named e program
  Ok (meaning_of (meanings_seen found.meanings.items) (name_text e.names name))

-- the name at which a reference is wrong
abbrev pub last_name : Reference → ℕ
last_name (references.Own name) = name
last_name (references.Other program name) = name

-- a type's declaration refers to itself
abbrev pub is_itself : Env → Reference → Bool
is_itself e (references.Own name) = e.is_type && bytes_eq (name_text e.names name) (name_text e.names e.own)
is_itself e (references.Other program name) = false

abbrev pub type_by : Env → Reference → Option MeaningModel → Result (NamedModel × ℕ) NameFault
type_by e r (Some (MeaningModel.type named size)) = Ok (named, size)
type_by e r (Some MeaningModel.recursive) = Err (last_name r, reasons.Recursive)
type_by e r (Some _) = Err (last_name r, reasons.UnknownName)
type_by e r None = Err (last_name r, if is_itself e r then reasons.Recursive else reasons.UnknownName)

-- the type that is referred to, and its size
unfoldable pub type_named : Env → Reference → Result (NamedModel × ℕ) NameFault
type_named e r = look_up e r >>= λ found. type_by e r found

abbrev pub value_by : Reference → Option MeaningModel → Result (Option ℕ) NameFault
value_by r (Some (MeaningModel.constant value)) = Ok value
value_by r _ = Err (last_name r, reasons.UnknownName)

-- the value of the constant that is referred to, if it is a number
unfoldable pub value_named : Env → Reference → Result (Option ℕ) NameFault
value_named e r = look_up e r >>= λ found. value_by r found

abbrev pub word_by : Reference → Option ℕ → Result ℕ NameFault
word_by r (Some n) = if nat_lt n 65536 then Ok n else Err (last_name r, reasons.NotNumber)
word_by r None = Err (last_name r, reasons.NotNumber)

-- a number of one word
unfoldable pub word_of : Env → Numeric → Result ℕ NameFault
word_of e (numerics.Number n) = Ok n
word_of e (numerics.Constant r) = value_named e r >>= λ value. word_by r value

-- what is left of the room for parts
abbrev pub spent : Env → ℕ → ℕ → Result ℕ NameFault
spent e room count = if nat_lt room count then Err (e.own, reasons.TooLarge) else Ok (room - count)
