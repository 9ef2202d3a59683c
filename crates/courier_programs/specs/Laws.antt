-- Laws of names (XSIS 038112, Courier, Remote programs).
use Rattle.std.specs.Prelude.{◌≡◌, ℕ, List, ◌∷◌, ◌++◌, None, Ok}
use Rattle.std.specs.List.{AllByRecursion}
use Rattle.courier_notation.specs.declared.written.Reference.{Reference}
use Rattle.courier_notation.specs.declared.written.Reference.TheVariants as references
use Rattle.courier_texts.specs.Laws.{AreComponentsNamed, IsNamed}
use Rattle.courier_texts.specs.Named.{NamedModel}
use Rattle.courier_programs.specs.declared.program.Program.{Program}
use Rattle.courier_programs.specs.Meanings.{ResolvedError, FieldsModel, MeaningList, MeaningModel, ResolvedProcedure, ResolvedModel, components_from, meaning_of, meanings_seen, resolved_model}
use Rattle.courier_programs.specs.Scopes.{Env, program_named, name_text, type_named}
use Rattle.courier_programs.specs.Texts.{text_meant}

-- the name was declared as that, and no declaration before has it
pub record IsDeclared (meanings : MeaningList) (name : List ℕ) (meaning : MeaningModel) : Type 0 where
  pub front : MeaningList
  pub back : MeaningList
  pub parts : meanings ≡ front ++ (name, meaning) ∷ back
  pub first : meaning_of front name ≡ None

-- a reference means this: what the same program declared before, or what the program declares that is depended upon by the first name
abbrev pub IsDeclaredAs : Env → Reference → MeaningModel → Type 0
IsDeclaredAs e (references.Own name) meaning = IsDeclared e.meanings (name_text e.names name) meaning
IsDeclaredAs e (references.Other program name) meaning =
    (p : Program) × (program_named e program ≡ Ok p) × IsDeclared (meanings_seen p.meanings.items) (name_text e.names name) meaning

-- what a reference stands for as a type was declared as that type
abbrev pub ReferredTypeIsDeclared : Type 0
ReferredTypeIsDeclared = (e : Env) (r : Reference) (t : NamedModel × ℕ) → type_named e r ≡ Ok t → IsDeclaredAs e r (MeaningModel.type t.0 t.1)

-- ---- texts of values

-- where a name stands for a type, each member of an enumeration and each candidate of a choice in it has a name of its own
abbrev pub IsMeaningNamed : MeaningModel → Type 0
IsMeaningNamed (MeaningModel.type named size) = IsNamed named
IsMeaningNamed _ = Unit {0}

-- members and candidates in the components of a record have names of their own
abbrev pub AreFieldsNamed : FieldsModel → Type 0
AreFieldsNamed fields = AreComponentsNamed (components_from fields.0)

abbrev pub IsProcedureNamed : ResolvedProcedure → Type 0
IsProcedureNamed p = AreFieldsNamed p.arguments × AreFieldsNamed p.results

abbrev pub IsErrorNamed : ResolvedError → Type 0
IsErrorNamed r = AreFieldsNamed r.arguments

-- members and candidates in all that a program declares have names of their own
pub record AreTypesNamed (p : ResolvedModel) : Type 0 where
  pub meanings : AllByRecursion (λ m. IsMeaningNamed m.1) p.meanings
  pub procedures : AllByRecursion IsProcedureNamed p.procedures
  pub errors : AllByRecursion IsErrorNamed p.errors

-- a program that is read has named members and candidates, if those that were read before it have
abbrev pub ReadTypesAreNamed : Type 0
ReadTypesAreNamed = (text : List ℕ) (before : List Program) (p : ResolvedModel) → AllByRecursion (λ b. AreTypesNamed (resolved_model b)) before
    → text_meant text before ≡ Ok p → AreTypesNamed p
