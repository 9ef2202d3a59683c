-- What names stand for, without where it lies in memory.
use Rattle.std.specs.Prelude.{ℕ, List, [], ◌∷◌, map, Option, option_map}
use Rattle.std.specs.Global.{Vec}
use Rattle.std.specs.List.{find}
use Rattle.std.specs.Str.{bytes_eq}
use Rattle.courier_types.specs.Shape.{ShapeModel, shape_model}
use Rattle.courier_texts.specs.declared.named.Named.{Named}
use Rattle.courier_texts.specs.Named.{NamedModel, ComponentModels, no_components, component_and, named_model}
use Rattle.courier_programs.specs.declared.program.Fields.{Fields}
use Rattle.courier_programs.specs.declared.program.Procedure.{Procedure}
use Rattle.courier_programs.specs.declared.program.RemoteError.{RemoteError}
use Rattle.courier_programs.specs.declared.program.Meaning.{Meaning}
use Rattle.courier_programs.specs.declared.program.Meaning.TheVariants as kinds
use Rattle.courier_programs.specs.declared.program.Program.{Program}

-- the components of a record: their names and types
abbrev pub Components : Type 0
Components = List (List ℕ × NamedModel)

abbrev pub components_seen : List (Vec ℕ × Named) → Components
components_seen parts = map (λ part. (part.0.items, named_model part.1)) parts

abbrev pub components_from : Components → ComponentModels
components_from [] = no_components
components_from (part ∷ parts) = component_and part.0 part.1 (components_from parts)

-- the components of a record, and its shape
abbrev pub FieldsModel : Type 0
FieldsModel = Components × ShapeModel

abbrev pub fields_model : Fields → FieldsModel
fields_model fields = (components_seen fields.components.items, shape_model fields.shape)

pub record ResolvedProcedure : Type 0 where
  pub name : List ℕ
  pub number : ℕ
  pub arguments : FieldsModel
  pub results : FieldsModel

abbrev pub resolved_procedure : Procedure → ResolvedProcedure
resolved_procedure p = record { name = p.name.items; number = p.number; arguments = fields_model p.arguments; results = fields_model p.results }

pub record ResolvedError : Type 0 where
  pub name : List ℕ
  pub number : ℕ
  pub arguments : FieldsModel

abbrev pub resolved_error : RemoteError → ResolvedError
resolved_error e = record { name = e.name.items; number = e.number; arguments = fields_model e.arguments }

pub data MeaningModel : Type 0 where
  type : NamedModel → ℕ → MeaningModel
  recursive : MeaningModel
  constant : Option ℕ → MeaningModel
  procedure : MeaningModel
  error : MeaningModel

abbrev pub meaning_model : Meaning → MeaningModel
meaning_model (kinds.Type named size) = MeaningModel.type (named_model named) size
meaning_model kinds.Recursive = MeaningModel.recursive
meaning_model (kinds.Constant value) = MeaningModel.constant value
meaning_model kinds.Procedure = MeaningModel.procedure
meaning_model kinds.Error = MeaningModel.error

-- names, and what they stand for
abbrev pub MeaningList : Type 0
MeaningList = List (List ℕ × MeaningModel)

abbrev pub meanings_seen : List (Vec ℕ × Meaning) → MeaningList
meanings_seen meanings = map (λ m. (m.0.items, meaning_model m.1)) meanings

-- what the name stands for: where it was declared first
abbrev pub meaning_of : MeaningList → List ℕ → Option MeaningModel
meaning_of meanings name = option_map (λ m. m.1) (find (λ m. bytes_eq m.0 name) meanings)

pub record ResolvedModel : Type 0 where
  pub name : List ℕ
  pub number : ℕ
  pub version : ℕ
  pub meanings : MeaningList
  pub procedures : List ResolvedProcedure
  pub errors : List ResolvedError

abbrev pub resolved_model : Program → ResolvedModel
resolved_model p = record {
  name = p.name.items;
  number = p.number;
  version = p.version;
  meanings = meanings_seen p.meanings.items;
  procedures = map resolved_procedure p.procedures.items;
  errors = map resolved_error p.errors.items;
}
