-- Types as they are written (XSIS 038112, Courier).
use Rattle.std.specs.Prelude.{ℕ, List, [], ◌∷◌, map, Option}
use Rattle.std.specs.Global.{Vec}
use Rattle.courier_types.specs.declared.predefined.Predefined.{Predefined}
use Rattle.courier_notation.specs.declared.written.Numeric.{Numeric}
use Rattle.courier_notation.specs.declared.written.Reference.{Reference}
use Rattle.courier_notation.specs.declared.written.WrittenType.{WrittenType, fold-WrittenType}
use Rattle.courier_notation.specs.declared.written.WrittenType.TheOpen.{WrittenType-F}

-- a designator's name, and its word where that is written
abbrev pub Designator : Type 0
Designator = ℕ × Option Numeric

-- a type without where it lies in memory
mutual
  pub data TypeModel : Type 0 where
    predefined : Predefined → TypeModel
    enumeration : List (ℕ × Numeric) → TypeModel
    array : Numeric → TypeModel → TypeModel
    sequence : Option Numeric → TypeModel → TypeModel
    fields : FieldModels → TypeModel
    choice : Option Reference → CandidateModels → TypeModel
    named : Reference → TypeModel

  -- the components of a record: names, and their type
  pub data FieldModels : Type 0 where
    no_fields : FieldModels
    field_and : List ℕ → TypeModel → FieldModels → FieldModels

  -- the candidates of a choice: designators, and their type
  pub data CandidateModels : Type 0 where
    no_candidates : CandidateModels
    candidate_and : List Designator → TypeModel → CandidateModels → CandidateModels

abbrev pub fields_from : List (List ℕ × TypeModel) → FieldModels
fields_from [] = no_fields
fields_from (f ∷ fs) = field_and f.0 f.1 (fields_from fs)

abbrev pub candidates_from : List (List Designator × TypeModel) → CandidateModels
candidates_from [] = no_candidates
candidates_from (c ∷ cs) = candidate_and c.0 c.1 (candidates_from cs)

-- components of which the types alone are seen already
abbrev pub fields_of_seen : List (Vec ℕ × TypeModel) → FieldModels
fields_of_seen [] = no_fields
fields_of_seen (f ∷ fs) = field_and f.0.items f.1 (fields_of_seen fs)

-- candidates of which the types alone are seen already
abbrev pub candidates_of_seen : List (Vec Designator × TypeModel) → CandidateModels
candidates_of_seen [] = no_candidates
candidates_of_seen (c ∷ cs) = candidate_and c.0.items c.1 (candidates_of_seen cs)

-- one level, where the types inside are seen already
abbrev pub type_level : WrittenType-F TypeModel → TypeModel
type_level (WrittenType-F.Predefined type) = TypeModel.predefined type
type_level (WrittenType-F.Enumeration members) = TypeModel.enumeration members.items
type_level (WrittenType-F.Array n element) = TypeModel.array n element.value
type_level (WrittenType-F.Sequence most element) = TypeModel.sequence most element.value
type_level (WrittenType-F.Record groups) = TypeModel.fields (fields_of_seen groups.items)
type_level (WrittenType-F.Choice tag groups) = TypeModel.choice tag (candidates_of_seen groups.items)
type_level (WrittenType-F.Named name) = TypeModel.named name

-- what a type stands for, wherever it lies in memory
abbrev pub type_model : WrittenType → TypeModel
type_model = fold-WrittenType TypeModel type_level

-- a group: parts that are written together, and their type
abbrev pub group_model : {A : Type 0} → Vec A × WrittenType → List A × TypeModel
group_model g = (g.0.items, type_model g.1)

abbrev pub group_models : {A : Type 0} → List (Vec A × WrittenType) → List (List A × TypeModel)
group_models groups = map group_model groups

abbrev pub field_models : List (Vec ℕ × WrittenType) → List (List ℕ × TypeModel)
field_models = group_models

abbrev pub candidate_models : List (Vec Designator × WrittenType) → List (List Designator × TypeModel)
candidate_models = group_models
