-- Programs as they are written (XSIS 038112, Courier).
use Rattle.std.specs.Prelude.{ℕ, List, map}
use Rattle.courier_notation.specs.declared.declared.Constant.{Constant}
use Rattle.courier_notation.specs.declared.declared.Declaration.{Declaration}
use Rattle.courier_notation.specs.declared.declared.Declared.{Declared}
use Rattle.courier_notation.specs.declared.declared.Declared.TheVariants as kinds
use Rattle.courier_notation.specs.declared.declared.Dependency.{Dependency}
use Rattle.courier_notation.specs.declared.declared.WrittenProgram.{WrittenProgram}
use Rattle.courier_notation.specs.declared.written.Reference.{Reference}
use Rattle.courier_notation.specs.Written.{TypeModel, type_model, field_models}

-- components of a record, of arguments or of results
abbrev pub FieldList : Type 0
FieldList = List (List ℕ × TypeModel)

-- what a name is declared as, without where it lies in memory
pub data DeclaredModel : Type 0 where
  is_type : TypeModel → DeclaredModel
  is_constant : TypeModel → Constant → DeclaredModel
  is_procedure : FieldList → FieldList → List Reference → ℕ → DeclaredModel
  is_error : FieldList → ℕ → DeclaredModel

abbrev pub declared_view : Declared → DeclaredModel
declared_view (kinds.Type type) = DeclaredModel.is_type (type_model type)
declared_view (kinds.Constant type constant) = DeclaredModel.is_constant (type_model type) constant
declared_view (kinds.Procedure arguments results errors number) =
    DeclaredModel.is_procedure (field_models arguments.items) (field_models results.items) errors.items number
declared_view (kinds.Error arguments number) = DeclaredModel.is_error (field_models arguments.items) number

abbrev pub declaration_view : Declaration → ℕ × DeclaredModel
declaration_view d = (d.name, declared_view d.declared)

abbrev pub declaration_views : List Declaration → List (ℕ × DeclaredModel)
declaration_views ds = map declaration_view ds

pub record ProgramModel : Type 0 where
  pub name : ℕ
  pub number : ℕ
  pub version : ℕ
  pub dependencies : List Dependency
  pub declarations : List (ℕ × DeclaredModel)

abbrev pub program_view : WrittenProgram → ProgramModel
program_view p = record {
  name = p.name;
  number = p.number;
  version = p.version;
  dependencies = p.dependencies.items;
  declarations = declaration_views p.declarations.items;
}
